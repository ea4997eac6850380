-- What is known while spans are made by number, one after another.
use Rattle.std.proofs.Common.{◌≡◌, ◌⊎◌, inl, inr, ℕ, ◌+◌, ◌/◌, ◌<◌, ◌≤◌, ◌^◌, All, List, [], ◌∷◌, ◌++◌, append_assoc, append-nil, drop, get_or, length, map, refl, sym, ap, ◌∙◌, subst, arith, length-append}
use Rattle.std.specs.List.{enumerate_from, zip}
use Rattle.std.proofs.lemmas.List.{length-map, map-append}
use Rattle.std.proofs.lemmas.List.Elements.{All-head, All-map, All-push, All-tail}
use Rattle.std.proofs.lemmas.List.FromFn.{length-enumerate_from}
use Rattle.expand_kernel.specs.thing.Region.{Region}
use Rattle.image_pack.specs.declared.parts.SpanPart.{SpanPart}
use Rattle.muen_num.proofs.Lists.{numbered_append, all_front, drop_more, all_unmapped}
use Rattle.muen_num.specs.declared.limits.TheConstants.{PAGE}
use Rattle.policy_lawful.specs.source.Device.{Device}
use Rattle.policy_lawful.specs.source.DeviceMemory.{DeviceMemory}
use Rattle.span_emit.specs.ByAddress.{HasNames}
use Rattle.span_emit.specs.Spans.{device_span, region_span}
use Rattle.policy_lawful.specs.ByIndex.{memories_of}
use Rattle.span_emit.proofs.PairLaws.{all_second}

abbrev Named : SpanPart → Type 0
Named s = HasNames s.tag

-- ---- regions

abbrev IsSmall : Region → Type 0
IsSmall r = r.size / PAGE < 2 ^ 32

-- those made so far, and those of the regions that are left, are all
pub record Regions (all : List SpanPart) (left : List Region) (addresses : List ℕ) (made : List SpanPart) : Type 0 where
  pub whole : made ++ map region_span (enumerate_from (length made) (zip left addresses)) ≡ all
  pub named : All (λ s. HasNames s.tag) made
  pub few : length made + length left ≤ 2 ^ 16
  pub small : All (λ r. r.size / PAGE < 2 ^ 32) left

module _ (all : List SpanPart) (left : List Region) (addresses : List ℕ) (made : List SpanPart) (h : Regions all left addresses made) where
  module _ (r : Region) (rs : List Region) (is : left ≡ r ∷ rs) where
    -- the next can be made
    pub region_fits : (length made < 2 ^ 16) × (r.size / PAGE < 2 ^ 32)
    region_fits =
        let few = h.few in
        let e = ap length is in
        (omega arith, All-head IsSmall r rs (subst (All IsSmall) is h.small))

    pub region_made : (p : ℕ) (ps : List ℕ) (number : ℕ) (s : SpanPart) (more : List SpanPart) → addresses ≡ p ∷ ps → number ≡ length made → s ≡ region_span (number, (r, p)) → HasNames s.tag → more ≡ made ++ s ∷ [] → Regions all rs ps more
    region_made p ps number s more of count new names then =
        let e : length (made ++ s ∷ []) ≡ length made + 1 = length-append made (s ∷ []) in
        let few = h.few in
        let l = ap length is in
        let m = ap length then in
        record {
          whole =
              ap (λ xs. xs ++ map region_span (enumerate_from (length xs) (zip rs ps))) then
              ∙ ap (λ n. (made ++ s ∷ []) ++ map region_span (enumerate_from n (zip rs ps))) e
              ∙ append_assoc made (s ∷ []) (map region_span (enumerate_from (length made + 1) (zip rs ps)))
              ∙ ap (λ t. made ++ t ∷ map region_span (enumerate_from (length made + 1) (zip rs ps))) (new ∙ ap (λ n. region_span (n, (r, p))) count)
              ∙ (λ i. made ++ map region_span (enumerate_from (length made) (zip (sym is i) (sym of i))))
              ∙ h.whole;
          named = subst (All Named) (sym then) (All-push Named made s h.named names);
          few = omega arith;
          small = All-tail IsSmall r rs (subst (All IsSmall) is h.small);
        }

  pub regions_last : (left ≡ []) ⊎ (addresses ≡ []) → made ≡ all
  regions_last e = sym (append-nil made) ∙ ap (λ xs. made ++ map region_span (enumerate_from (length made) xs)) (sym (none left addresses e)) ∙ h.whole
    where
      none : (xs : List Region) (ys : List ℕ) → (xs ≡ []) ⊎ (ys ≡ []) → zip xs ys ≡ []
      none [] ys e = refl
      none (x ∷ xs) [] e = refl
      none (x ∷ xs) (y ∷ ys) (inl e) = absurd (cc)
      none (x ∷ xs) (y ∷ ys) (inr e) = absurd (cc)

-- ---- the memory of devices

abbrev Memory : Type 0
Memory = List ℕ × DeviceMemory

abbrev IsLittle : Memory → Type 0
IsLittle x = x.1.size / PAGE < 2 ^ 32

-- those made so far, and those of the memory that is left, are all
pub record Memories (all : List SpanPart) (left : List (List ℕ × DeviceMemory)) (made : List SpanPart) : Type 0 where
  pub whole : made ++ map device_span (enumerate_from (length made) left) ≡ all
  pub named : All (λ s. HasNames s.tag) made
  pub few : length made + length left ≤ 2 ^ 16
  pub small : All (λ x. x.1.size / PAGE < 2 ^ 32) left

pub memories_first : (old : List SpanPart) (left : List (List ℕ × DeviceMemory)) → length old + length left ≤ 2 ^ 16 → All (λ x. x.1.size / PAGE < 2 ^ 32) left → All (λ s. HasNames s.tag) old
    → Memories (old ++ map device_span (enumerate_from (length old) left)) left old
memories_first old left few small named = record { whole = refl; named = named; few = few; small = small }

module _ (all : List SpanPart) (xs ys : List Memory) (made : List SpanPart) (h : Memories all (xs ++ ys) made) where
  pub memories_fit : (length made + length xs ≤ 2 ^ 16) × All (λ (x : List ℕ × DeviceMemory). x.1.size / PAGE < 2 ^ 32) xs
  memories_fit =
      let few = h.few in
      let e = length-append xs ys in
      (omega arith, all_front IsLittle xs ys h.small)

  pub memories_made : (more : List SpanPart) → more ≡ made ++ map device_span (enumerate_from (length made) xs) → All (λ s. HasNames s.tag) more → Memories all ys more
  memories_made more then names =
      let here : List SpanPart = map device_span (enumerate_from (length made) xs) in
      let many : length here ≡ length xs = length-map (enumerate_from (length made) xs) device_span ∙ length-enumerate_from (length made) xs in
      let e : length (made ++ here) ≡ length made + length xs = length-append made here ∙ ap (λ n. length made + n) many in
      let few = h.few in
      let l = length-append xs ys in
      let m = ap length then in
      record {
        whole =
            ap (λ zs. zs ++ map device_span (enumerate_from (length zs) ys)) then
            ∙ ap (λ n. (made ++ here) ++ map device_span (enumerate_from n ys)) e
            ∙ append_assoc made here (map device_span (enumerate_from (length made + length xs) ys))
            ∙ ap (λ zs. made ++ zs) (sym (map-append device_span (enumerate_from (length made) xs) (enumerate_from (length made + length xs) ys)))
            ∙ ap (λ zs. made ++ map device_span zs) (sym (numbered_append (length made) xs ys))
            ∙ h.whole;
        named = names;
        few = omega arith;
        small = all_second IsLittle xs ys h.small;
      }

-- ---- of a device

abbrev named_by : List ℕ → DeviceMemory → Memory
named_by device m = (device, m)

pub memory_first : (old : List SpanPart) (device : List ℕ) (ms : List DeviceMemory) → length old + length ms ≤ 2 ^ 16 → All (λ m. m.size / PAGE < 2 ^ 32) ms → All (λ s. HasNames s.tag) old
    → Memories (old ++ map device_span (enumerate_from (length old) (map (λ m. (device, m)) ms))) (map (λ m. (device, m)) ms) old
memory_first old device ms few small named =
    let many : length (map (named_by device) ms) ≡ length ms = length-map ms (named_by device) in
    memories_first old (map (named_by device) ms) (omega arith) (All-map IsLittle (named_by device) ms small) named

pub memory_made : (all : List SpanPart) (device : List ℕ) (ms : List DeviceMemory) (i : ℕ) (m : DeviceMemory) (made more : List SpanPart) → i < length ms → m ≡ get_or ms i m
    → Memories all (map (λ m. (device, m)) (drop i ms)) made → more ≡ made ++ device_span (length made, (device, m)) ∷ [] → All (λ s. HasNames s.tag) more → Memories all (map (λ m. (device, m)) (drop (i + 1) ms)) more
memory_made all device ms i m made more l is h then names =
    let here : Memories all ((device, m) ∷ map (named_by device) (drop (i + 1) ms)) made = subst (λ xs. Memories all (map (named_by device) xs) made) (drop_more ms i m l is) h in
    memories_made all ((device, m) ∷ []) (map (named_by device) (drop (i + 1) ms)) made here more then names

module _ (all : List SpanPart) (ds : List Device) (i : ℕ) (d : Device) (made : List SpanPart) (l : i < length ds) (is : d ≡ get_or ds i d) (h : Memories all (memories_of (drop i ds)) made) where
  here : Memories all (map (named_by d.name) d.memory ++ memories_of (drop (i + 1) ds)) made
  here = subst (λ xs. Memories all (memories_of xs) made) (drop_more ds i d l is) h

  pub device_small : All (λ m. m.size / PAGE < 2 ^ 32) d.memory
  device_small = all_unmapped (named_by d.name) IsLittle d.memory (memories_fit all (map (named_by d.name) d.memory) (memories_of (drop (i + 1) ds)) made here).1

  pub device_made : (more : List SpanPart) → more ≡ made ++ map device_span (enumerate_from (length made) (map (λ m. (d.name, m)) d.memory)) → All (λ s. HasNames s.tag) more → Memories all (memories_of (drop (i + 1) ds)) more
  device_made more then names = memories_made all (map (named_by d.name) d.memory) (memories_of (drop (i + 1) ds)) made here more then names
