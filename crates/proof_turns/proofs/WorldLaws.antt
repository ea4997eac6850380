-- In the midst of a turn, the subject's own world and the machine's are alike.
use Rattle.std.proofs.Common.{◌≡◌, ◌⊎◌, ◌+◌, ◌*◌, ◌/◌, ◌%◌, ◌<◌, ◌∷◌, ◌++◌, ◌∙◌}
use Rattle.std.proofs.Common.{ℕ, zero, suc, Bool, true, false, cond, not, List, [], map, take, drop, get_or, Option, Some, None, refl, sym, ap, inl, inr, arith}
use Rattle.std.specs.Prelude.{◌==◌, nat_le, filter, slice_get, slice_index_or, unwrap_or}
use Rattle.std.specs.List.{list_all, list_any}
use Rattle.std.specs.Option.{option_map_or}
use Rattle.std.proofs.lemmas.Bool.{and_parts, cases_eq, eq-eqb, ne_eqb, true≢false}
use Rattle.std.proofs.lemmas.List.{get_or-drop, map_push}
use Rattle.machine_layout.specs.Memory.{page_of, le_number}
use Rattle.muen_num.specs.Range.{numbers_below}
use Rattle.muen_num.specs.AccessSize.{bytes_of as count}
use Rattle.muen_num.specs.declared.access.AccessKind.{AccessKind}
use Rattle.muen_num.specs.declared.access.AccessSize.{AccessSize}
use Rattle.muen_num.specs.declared.limits.TheConstants.{LAST_PORT}
use Rattle.kernel_core.specs.Devices.{value_of_ports}
use Rattle.subject_model.specs.Resources.{are_granted, is_granted, msrs_of, ports_of}
use Rattle.policy_lawful.specs.Thing.{Thing, same_thing}
use Rattle.policy_lawful.specs.Windows.{Access, byte, violation, access_of, windows_of}
use Rattle.policy_lawful.specs.source.Subject.{Subject}
use Rattle.guest_isa.specs.Named.{AreAlike}
use Rattle.guest_isa.specs.Step.{word_at}
use Rattle.guest_isa.specs.declared.reach.Reach.TheVariants.{Reached}
use Rattle.image_pack.specs.declared.parts.SubjectPart.{SubjectPart}
use Rattle.kernel_core.specs.Kernel.{Live}
use Rattle.vmx_machine.specs.Machine.{machine_world, msr_exits_in, page_bytes_at, ports_exit}
use Rattle.vmx_machine.specs.declared.control.Control.{Control}
use Rattle.vmx_machine.specs.declared.cpu.Cpu.{Cpu}
use Rattle.subject_model.specs.Alone.{Things, alone, bytes_in, input_byte, own_of, reach_by, thing_in}
use Rattle.subject_model.specs.System.{System, inbox_of, is_shown}
use Rattle.proof_turns.specs.Ground.{Ground, Joined, page_and_offset}
use Rattle.proof_turns.specs.Held.{held_by}
use Rattle.proof_turns.specs.Fixed.{IsFixed, Watches}
use Rattle.proof_turns.specs.Stands.{Running}
use Rattle.subject_model.proofs.KeyLaws.{value_filtered}
use Rattle.policy_lawful.proofs.SameThings.{same_things}
use Rattle.proof_turns.proofs.FrameLaws.{aligned_alike, look_stays, msrs_stay, ports_stay, word_of_part}

-- ---- ports

map_front : {X : Type 0} (h : ℕ → X) (n : ℕ) → map h (numbers_below (suc n)) ≡ h 0 ∷ map (λ k. h (suc k)) (numbers_below n)
map_front h zero = refl
map_front h (suc n) =
    map_push h (numbers_below (suc n)) (suc n)
    ∙ (ap (λ xs. xs ++ h (suc n) ∷ []) (map_front h n)
    ∙ ap (λ xs. h 0 ∷ xs) (sym (map_push (λ k. h (suc k)) (numbers_below n) n)))

no_bytes : (h : ℕ → ℕ) (n : ℕ) → ((k : ℕ) → h k ≡ 0) → le_number (map h (numbers_below n)) ≡ 0
no_bytes h zero none = refl
no_bytes h (suc n) none =
    let head = none 0 in
    let tail = no_bytes (λ k. h (suc k)) n (λ k. none (suc k)) in
    rw (map_front h n) (rw (head, tail) refl)

-- what is read of the first n bytes is made of each of them, and 0 past the end
first_bytes : (n : ℕ) (xs : List ℕ) → le_number (take n xs) ≡ le_number (map (λ k. get_or xs k 0) (numbers_below n))
first_bytes zero xs = refl
first_bytes (suc n) [] = sym (no_bytes (λ k. get_or [] k 0) (suc n) (λ k. refl))
first_bytes (suc n) (x ∷ xs) =
    rw (map_front (λ k. get_or (x ∷ xs) k 0) n) (ap (λ m. x + 256 * m) (first_bytes n xs))

-- the input byte of a port that is granted
granted_byte : (f : ℕ → ℕ) (granted : List ℕ) (port : ℕ) → list_any (λ n. n == port) granted ≡ true → input_byte (map (λ n. (n, f n)) granted) port ≡ f port
granted_byte f [] port h = absurd (true≢false (sym h))
granted_byte f (n ∷ ns) port h =
    elim (cases_eq n port) [ inl e ↦ rw (eq-eqb n port e) (ap f e) | inr ne ↦ let t = ne_eqb n port ne in rw t (granted_byte f ns port (rw t at h)) ]

-- where a test passes for all, two functions that agree where it passes give the same
map_passing : (test : ℕ → Bool) (f h : ℕ → ℕ) (xs : List ℕ) → list_all test xs ≡ true → ((k : ℕ) → test k ≡ true → f k ≡ h k) → map f xs ≡ map h xs
map_passing test f h [] all same = refl
map_passing test f h (x ∷ xs) all same =
    let parts = and_parts (test x) (list_all test xs) all in
    let head = same x parts.0 in
    let tail = map_passing test f h xs parts.1 same in
    rw (head, tail) refl

-- what is read of ports that are granted
granted_value : (granted ports : List ℕ) (port size : ℕ) → are_granted granted port size ≡ true
    → value_of_ports ports port size ≡ le_number (map (λ k. input_byte (map (λ n. (n, slice_index_or ports n 0)) granted) (port + k)) (numbers_below size))
granted_value granted ports port size h =
    let parts = and_parts (nat_le (port + size) (LAST_PORT + 1)) (list_all (λ k. list_any (λ n. n == port + k) granted) (numbers_below size)) h in
    first_bytes size (drop port ports)
    ∙ ap le_number (map_passing (λ k. list_any (λ n. n == port + k) granted) (λ k. get_or (drop port ports) k 0)
    (λ k. input_byte (map (λ n. (n, slice_index_or ports n 0)) granted) (port + k)) (numbers_below size) parts.1
    (λ k t. get_or-drop port ports k 0 ∙ sym (granted_byte (λ n. slice_index_or ports n 0) granted (port + k) t)))

-- by whether reading them exits
read_alike : (exits b : Bool) (v v' : ℕ) → exits ≡ not b → (b ≡ true → v ≡ v') → cond exits None (Some v) ≡ cond b (Some v') None
read_alike exits true v v' e h = rw e (ap Some (h refl))
read_alike exits false v v' e h = rw e refl

found_alike : (exits b : Bool) (v v' : Option ℕ) → exits ≡ not b → (b ≡ true → v ≡ v') → cond exits None v ≡ cond b v' None
found_alike exits true v v' e h = rw e (h refl)
found_alike exits false v v' e h = rw e refl

allowed_alike : (exits b : Bool) → exits ≡ not b → not exits ≡ b
allowed_alike exits true e = rw e refl
allowed_alike exits false e = rw e refl

-- ---- memory

-- an access that ends at a byte was allowed
reached : (kind : AccessKind) (addr : ℕ) (a : Access Thing) (x : Thing) (offset : ℕ) → reach_by kind addr a ≡ Reached x offset → a ≡ byte x offset
reached kind addr (byte z o) x offset e = cc (e)
reached kind addr (violation found) x offset e = absurd (cc (e))

-- of who isn't on the CPU, the page is the state page
pub off_page : (s msrs : ℕ) (page area : Option (List ℕ)) (on : Option (Option ℕ)) (u : Option Cpu) (t : ℕ) → on ≡ Some (Some t) → (t ≡ s → ⊥)
    → (held_by s msrs page area on u).page ≡ page
off_page s msrs page area on (Some u) t e ne = rw e (rw (ne_eqb t s ne) refl)
off_page s msrs page area on None t e ne = rw e refl

module _ (g : Ground) (fixed : IsFixed g) where
  watched_page : (k : Live) (y : System) (cpu s : ℕ) (n : Subject) (q : SubjectPart) (c : Control) (r : Running g k y cpu s n c) → Joined g s n q c → q.cpu ≡ cpu
      → (x : Thing) → Watches g s n x → page_of k.machine.pages (g.first x) ≡ thing_in y.things x
  watched_page k y cpu s n q c r joined its x w =
      let same : w.part.cpu ≡ cpu = w.joined.cpu ∙ (w.cpu ∙ (sym joined.cpu ∙ its)) in
      let on : slice_get k.on w.part.cpu ≡ Some (Some s) = ap (slice_get k.on) same ∙ r.on in
      let own = r.stands.owns w.number w.subject w.part w.control w.joined (λ e. w.other (cc (e))) in
      ap (λ z. page_of k.machine.pages (g.first z)) (sym w.page)
      ∙ (ap (page_of k.machine.pages) (fixed.state_pages w.number w.subject w.control w.joined.subject w.joined.control)
      ∙ (sym (off_page w.number w.control.msrs (page_of k.machine.pages w.control.state) (page_of k.machine.pages w.control.msr_area)
      (slice_get k.on w.part.cpu) (slice_get k.machine.cpus w.part.cpu) s on (λ e. w.other (sym e)))
      ∙ (sym own.page ∙ ap (thing_in y.things) w.page)))

  -- what is read of a thing that is reached
  seen_word : (k : Live) (y : System) (cpu s : ℕ) (n : Subject) (q : SubjectPart) (c : Control) (r : Running g k y cpu s n c) → Joined g s n q c → q.cpu ≡ cpu
      → (size : AccessSize) (x : Thing) (offset : ℕ) → offset % count size ≡ 0 → (offset / 4096 < g.pages x) ⊎ ((offset < 4096) × Watches g s n x)
      → word_at (count size) (page_bytes_at k.machine.pages (g.first x + offset / 4096)) (offset % 4096) ≡ word_at (count size) (bytes_in y.things x) offset
  seen_word k y cpu s n q c r joined its size x offset h (inl l) =
      word_of_part size (thing_in y.things x) (page_of k.machine.pages (g.first x + offset / 4096)) offset h (r.stands.shows.bytes x (offset / 4096) l)
  seen_word k y cpu s n q c r joined its size x offset h (inr w) =
      let page : g.first x + offset / 4096 ≡ g.first x = omega (arith, w.0) in
      let inside : offset % 4096 ≡ offset = omega (arith, w.0) in
      ap (λ p. word_at (count size) (page_bytes_at k.machine.pages p) (offset % 4096)) page
      ∙ (ap (λ i. word_at (count size) (page_bytes_at k.machine.pages (g.first x)) i) inside
      ∙ (ap (λ b. word_at (count size) (unwrap_or b []) offset) (watched_page k y cpu s n q c r joined its x w.1)
      ∙ there size (thing_in y.things x) offset))
    where
      there : (size : AccessSize) (o : Option (List ℕ)) (offset : ℕ) → word_at (count size) (unwrap_or o []) offset ≡ word_at (count size) (option_map_or (λ b. b) o []) offset
      there size None offset = refl
      there size (Some b) offset = refl

  -- what is shown of a thing is all of it
  shown_bytes : (things : Things) (n : Subject) (x : Thing) → is_shown (windows_of g.policy n) x ≡ true
      → thing_in (filter (λ e. is_shown (windows_of g.policy n) e.0) things) x ≡ thing_in things x
  shown_bytes things n x h =
      value_filtered same_thing (is_shown (windows_of g.policy n)) x things (λ a same. ap (is_shown (windows_of g.policy n)) (same_things a x same) ∙ h)

  pub worlds_alike : (k : Live) (y : System) (cpu s : ℕ) (n : Subject) (q : SubjectPart) (c : Control) (first : Bool) (tick : ℕ) (r : Running g k y cpu s n c)
      → Joined g s n q c → q.cpu ≡ cpu
      → AreAlike (page_and_offset g.first) (alone (own_of g.policy n) r.msrs.values (inbox_of g.policy y n first tick)) (machine_world k.machine.pages c r.unit.file k.ports tick)
  unfolding own_of inbox_of
  worlds_alike k y cpu s n q c first tick r joined its =
      let exits : (port size : ℕ) → ports_exit k.machine.pages c port size ≡ not (are_granted (ports_of g.policy n) port size) = λ port size.
      ports_stay g fixed k.machine.pages y.things s c port size r.stands.shows joined.control ∙ joined.ports port size in
      let msr_exits : (index : ℕ) (write : Bool) → msr_exits_in k.machine.pages c index write ≡ not (is_granted (msrs_of n) index write) = λ index write.
      msrs_stay g fixed k.machine.pages y.things s c index write r.stands.shows joined.control ∙ joined.msrs index write in
      record {
        look = λ kind addr low. look_stays g fixed k.machine.pages y.things s c kind addr r.stands.shows joined.control low ∙ joined.walks kind addr low;
        word = λ kind addr size x offset low aligned e.
            let sees = fixed.sees s n kind addr x offset joined.subject (reached kind addr (access_of (windows_of g.policy n) addr kind) x offset e) in
            seen_word k y cpu s n q c r joined its size x offset (aligned_alike size offset addr sees.aligned aligned) sees.there
            ∙ ap (λ o. word_at (count size) (option_map_or (λ b. b) o []) offset) (sym (shown_bytes y.things n x sees.shown));
        input = λ port size. read_alike (ports_exit k.machine.pages c port size) (are_granted (ports_of g.policy n) port size)
            (value_of_ports k.ports port size) _ (exits port size)
            (λ h. ap (λ ports. value_of_ports ports port size) r.stands.ports ∙ granted_value (ports_of g.policy n) y.ports port size h);
        output = λ port size. allowed_alike (ports_exit k.machine.pages c port size) (are_granted (ports_of g.policy n) port size) (exits port size);
        msr = λ index. found_alike (msr_exits_in k.machine.pages c index false) (is_granted (msrs_of n) index false) _ _ (msr_exits index false) (λ h. r.msrs.same index (false, h));
        sets_msr = λ index. allowed_alike (msr_exits_in k.machine.pages c index true) (is_granted (msrs_of n) index true) (msr_exits index true);
        tick = refl;
      }
