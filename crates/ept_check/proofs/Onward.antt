-- Within a page: a walk for an address further on, and where the windows lead it.
use Rattle.std.proofs.Common.{◌≡◌, ℕ, zero, suc, ◌+◌, ◌-◌, ◌*◌, ◌/◌, ◌%◌, ◌<◌, ◌≤◌, ◌==◌, Bool, true, List, [], ◌∷◌, Option, Some, None, refl, sym, ap, ◌∙◌, inl, inr, arith}
use Rattle.std.specs.Prelude.{◌&&◌, bit_and, nat_le, nat_lt, slice_index_or}
use Rattle.std.specs.List.{All, find}
use Rattle.std.proofs.lemmas.Bool.{cases_Bool, cases_lt, and_parts, leb-true, le-leb, lt-ltb, lt-leb, le-ltb}
use Rattle.ept_check.proofs.Pieces.{find_same, find_some}
use Rattle.ept_check.proofs.Reading.{reads_ended, reads_on}
use Rattle.ept_check.proofs.Sizes.{index_on, part_on, whole_part}
use Rattle.ept_check.specs.Entries.{ended, leads_on}
use Rattle.ept_check.specs.Sound.{IsWhole}
use Rattle.ept_emit.specs.Emitted.{holds, translation, translation_in}
use Rattle.ept_emit.specs.declared.window.Window.{Window}
use Rattle.machine_layout.proofs.WalkSteps.{deeper, walk_is}
use Rattle.machine_layout.specs.Walks.{addresses_from, bits_of, entry_address, entry_size, goes_on, index_at, is_misconfigured, is_present, leaf_end, reads, walk_from}
use Rattle.machine_layout.specs.declared.walk.Walk.{Walk}
use Rattle.machine_layout.specs.declared.walk.Walk.TheVariants.{At, Misconfigured, Violation}
use Rattle.muen_num.specs.declared.access.AccessKind.{AccessKind}
use Rattle.ept_emit.specs.Rights.{allows}

abbrev pub onward : ℕ → Walk → Walk
onward d (At address) = At (address + d)
onward d (Violation r) = Violation r
onward d Misconfigured = Misconfigured

-- ---- walks

module _ (entry : ℕ → ℕ → Option ℕ) (there : ℕ → Bool) (b d : ℕ) (whole : b % 4096 ≡ 0) (few : d < 4096) where
  end_onward : (want rights address : ℕ) → address % 4096 ≡ 0 → leaf_end there 0 want rights (address + d) ≡ onward d (leaf_end there 0 want rights address)
  end_onward want rights address h =
      let same : (address + d) / 4096 ≡ address / 4096 = omega (arith, h, few) in
      elim (cases_Bool (bit_and rights want == want)) [
        | inr e ↦ rw e refl
        | inl e ↦ elim (cases_Bool (there (address / 4096))) [ inl t ↦ rw (e, same, t) refl | inr t ↦ rw (e, same, t) refl ]
      ]

  ended_onward : (l e want rights : ℕ) → l ≤ 3 → ended there l e (b + d) want rights ≡ onward d (ended there l e b want rights)
  ended_onward l e want rights a = elim (cases_Bool (is_present e)) [
    | inr p ↦ rw p refl
    | inl p ↦ elim (cases_Bool (is_misconfigured l e)) [
      | inl bad ↦ rw (p, bad) refl
      | inr good ↦
          let address : 4096 * bits_of e 12 51 + (b + d) % entry_size l ≡ 4096 * bits_of e 12 51 + b % entry_size l + d = omega (arith, part_on l b d a whole few) in
          rw (p, good) (ap (leaf_end there 0 want (bit_and rights (bits_of e 0 2))) address ∙ end_onward want (bit_and rights (bits_of e 0 2)) (4096 * bits_of e 12 51 + b % entry_size l) (omega (arith, whole_part l b a whole)))
    ]
  ]

  reads_onward : (l want rights : ℕ) (o : Option ℕ) (deep on : ℕ → ℕ → Walk) → l ≤ 3 → ((e : ℕ) → leads_on l e ≡ true → (t r : ℕ) → on t r ≡ onward d (deep t r)) → reads there l (b + d) want rights o on ≡ onward d (reads there l b want rights o deep)
  reads_onward l want rights None deep on a g = refl
  reads_onward l want rights (Some e) deep on a g = elim (cases_Bool (leads_on l e)) [
    | inl x ↦
        reads_on there l (b + d) want rights e on x
        ∙ g e x (bits_of e 12 51) (bit_and rights (bits_of e 0 2))
        ∙ ap (onward d) (sym (reads_on there l b want rights e deep x))
    | inr x ↦
        reads_ended there l (b + d) want rights e on x
        ∙ ended_onward l e want rights a
        ∙ ap (onward d) (sym (reads_ended there l b want rights e deep x))
  ]

  pub walk_onward : (want l t r : ℕ) → l ≤ 3 → walk_from entry there (b + d) want l t r ≡ onward d (walk_from entry there b want l t r)
  walk_onward want zero t r a =
      walk_is entry there (b + d) want 0 t r
      ∙ ap (λ i. reads there 0 (b + d) want r (entry t i) (deeper entry there (b + d) want 0)) (index_on 0 b d a whole few)
      ∙ reads_onward 0 want r (entry t (index_at 0 b)) (deeper entry there b want 0) (deeper entry there (b + d) want 0) a (λ e x u s. refl)
      ∙ ap (onward d) (sym (walk_is entry there b want 0 t r))
  walk_onward want (suc l) t r a =
      walk_is entry there (b + d) want (suc l) t r
      ∙ ap (λ i. reads there (suc l) (b + d) want r (entry t i) (deeper entry there (b + d) want (suc l))) (index_on (suc l) b d a whole few)
      ∙ reads_onward (suc l) want r (entry t (index_at (suc l) b)) (deeper entry there b want (suc l)) (deeper entry there (b + d) want (suc l)) a (λ e x u s. walk_onward want l u s (omega (arith, a)))
      ∙ ap (onward d) (sym (walk_is entry there b want (suc l) t r))

  on_same : (l : ℕ) (o : Option ℕ) (f g : ℕ → List ℕ) → ((t : ℕ) → f t ≡ g t) → goes_on l o [] f ≡ goes_on l o [] g
  on_same l None f g h = refl
  on_same l (Some e) f g h = elim (cases_Bool (leads_on l e)) [ inl x ↦ rw x (h (bits_of e 12 51)) | inr x ↦ rw x refl ]

  -- it reads the same entries
  pub addresses_onward : (l t : ℕ) → l ≤ 3 → addresses_from entry (b + d) l t ≡ addresses_from entry b l t
  addresses_onward zero t a = ap (λ i. entry_address t i ∷ []) (index_on 0 b d a whole few)
  addresses_onward (suc l) t a =
      ap (λ i. entry_address t i ∷ goes_on (suc l) (entry t i) [] (λ u. addresses_from entry (b + d) l u)) (index_on (suc l) b d a whole few)
      ∙ ap (λ xs. entry_address t (index_at (suc l) b) ∷ xs) (on_same (suc l) (entry t (index_at (suc l) b)) (λ u. addresses_from entry (b + d) l u) (λ u. addresses_from entry b l u) (λ u. addresses_onward l u (omega (arith, a))))

-- ---- windows

le_on : (n b d : ℕ) → n % 4096 ≡ 0 → b % 4096 ≡ 0 → d < 4096 → nat_le n (b + d) ≡ nat_le n b
le_on n b d x y z = elim (cases_lt b n) [
  | inl h ↦ lt-leb n (b + d) (omega (arith, x, y, z, h)) ∙ sym (lt-leb n b h)
  | inr h ↦ le-leb n (b + d) (omega (arith, h)) ∙ sym (le-leb n b h)
]

lt_on : (n b d : ℕ) → n % 4096 ≡ 0 → b % 4096 ≡ 0 → d < 4096 → nat_lt (b + d) n ≡ nat_lt b n
lt_on n b d x y z = elim (cases_lt b n) [
  | inl h ↦ lt-ltb (b + d) n (omega (arith, x, y, z, h)) ∙ sym (lt-ltb b n h)
  | inr h ↦ le-ltb (b + d) n (omega (arith, h)) ∙ sym (le-ltb b n h)
]

led_onward : (b d : ℕ) (kind : AccessKind) (ws : List Window) (o : Option Window) → All IsWhole ws → find (holds b) ws ≡ o → translation_in o (b + d) kind ≡ onward d (translation_in o b kind)
led_onward b d kind ws None whole is = refl
led_onward b d kind ws (Some w) whole is =
    let found = find_some IsWhole (holds b) ws w whole is in
    let start : w.guest ≤ b = leb-true w.guest b (and_parts (nat_le w.guest b) (nat_lt b (w.guest + w.size)) found.passes).0 in
    let address : w.address + (b + d - w.guest) ≡ w.address + (b - w.guest) + d = omega (arith, start) in
    elim (cases_Bool (allows w.rights kind)) [ inl e ↦ rw (e, address) refl | inr e ↦ rw e refl ]

pub translation_onward : (ws : List Window) (b d : ℕ) (kind : AccessKind) → b % 4096 ≡ 0 → d < 4096 → All IsWhole ws → translation ws (b + d) kind ≡ onward d (translation ws b kind)
translation_onward ws b d kind page few whole =
    let each : All (λ w. holds (b + d) w ≡ holds b w) ws = λ k w l.
    let here = whole k w l in
    let x = slice_index_or ws k w in
    ap (λ c. c && nat_lt (b + d) (x.guest + x.size)) (le_on x.guest b d here.guest page few)
    ∙ ap (λ c. nat_le x.guest b && c) (lt_on (x.guest + x.size) b d (omega (arith, here.guest, here.size)) page few) in
    ap (λ o. translation_in o (b + d) kind) (find_same (holds (b + d)) (holds b) ws each)
    ∙ led_onward b d kind ws (find (holds b) ws) whole refl
