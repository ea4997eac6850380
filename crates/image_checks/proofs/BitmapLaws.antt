-- Bitmaps that agree with granted ranges are those that the policy asks for, and the other way round.
use Rattle.std.proofs.Common.{◌≡◌, ℕ, ◌+◌, ◌-◌, ◌<◌, ◌≤◌, ◌==◌, Bool, true, false, not, List, map, filter, refl, sym, ap, ◌∙◌, subst, arith, inl, inr}
use Rattle.std.specs.Prelude.{◌&&◌, ◌||◌, nat_le, nat_lt}
use Rattle.std.specs.List.{list_all, list_any}
use Rattle.std.proofs.lemmas.Bool.{and_parts, cases_lt, eqb-true, eq-eqb, false_from_ne_true, leb-true, lt-leb, or_cases}
use Rattle.std.proofs.lemmas.Bool.Decides.{nat_tests}
use Rattle.std.proofs.lemmas.Map.Views.{any-filter_same}
use Rattle.std.proofs.Math.Bool.{and-true, or-false}
use Rattle.expand_kernel.specs.Resources.{are_granted, is_granted, msr_grant, msrs_of, port_ranges_of, ports_of}
use Rattle.policy_lawful.specs.PortRanges.{has_port}
use Rattle.image_checks.specs.Agree.{BitmapsAgree, MsrAgrees, MsrsAgree, PortsAgree}
use Rattle.image_checks.specs.declared.bitmaps.TheConstants.{RANGE_SIZE}
use Rattle.image_pack.specs.declared.parts.Image.{Image}
use Rattle.image_pack.specs.declared.parts.SubjectPart.{SubjectPart}
use Rattle.image_soundness.specs.Memory.{page_at}
use Rattle.image_soundness.specs.Sound.{HasBitmaps}
use Rattle.machine_layout.specs.Exits.{msr_exits, port_exits, port_is_set}
use Rattle.policy_lawful.specs.MsrGrants.{allows, has_msr, is_granted as is_msr_granted}
use Rattle.muen_num.proofs.Lists.{list_any-map}
use Rattle.muen_num.proofs.Members.{any_some, passes_in}
use Rattle.muen_num.proofs.NumbersBelow.{all_or_one, any_below}
use Rattle.muen_num.specs.Range.{numbers_below}
use Rattle.muen_num.specs.declared.limits.TheConstants.{HIGH_MSR_FIRST, HIGH_MSR_LAST, LAST_PORT, LOW_MSR_LAST}
use Rattle.policy_lawful.specs.MoreRules.{is_msr_range}
use Rattle.policy_lawful.specs.resources.MsrGrant.{MsrGrant}
use Rattle.policy_lawful.specs.resources.PortRange.{PortRange}
use Rattle.policy_lawful.specs.source.Msrs.{Msrs}
use Rattle.policy_lawful.specs.source.Source.{Source}
use Rattle.policy_lawful.specs.source.Subject.{Subject}
use Rattle.expand_kernel.proofs.GrantedMsrs.{msr_granted}

-- ---- ports

-- a port is among those that are granted where one of the ranges has it
among : (f : ℕ → Bool) (n x : ℕ) → x < n → list_any (λ y. y == x) (filter f (numbers_below n)) ≡ f x
among f n x l =
    any-filter_same (λ y. y == x) f (f x) (λ y h. ap f (eqb-true y x h)) (numbers_below n)
    ∙ ap (λ b. f x && b) (any_below (λ y. y == x) n x l (eq-eqb x x refl))
    ∙ and-true (f x)

port_among : (p : Source) (s : Subject) (ranges : List PortRange) (port : ℕ) → ranges ≡ port_ranges_of p s → port < LAST_PORT + 1 → list_any (λ n. n == port) (ports_of p s) ≡ list_any (λ r. has_port r port) ranges
unfolding ports_of
port_among p s ranges port is l = among (λ port. list_any (λ r. has_port r port) (port_ranges_of p s)) (LAST_PORT + 1) port l ∙ ap (list_any (λ r. has_port r port)) (sym is)

not_past : (last port : ℕ) → port ≤ last → nat_lt (last + 1) (port + 1) ≡ false
not_past last port l = grind (arith, nat_tests)

fits_one : (last port : ℕ) → port ≤ last → nat_le (port + 1) (last + 1) ≡ true
fits_one last port l = grind (arith, nat_tests)

-- an access of one port
exits_one : (test : ℕ → Bool) (last port : ℕ) → port ≤ last → (nat_lt (last + 1) (port + 1) || list_any (λ k. test (port + k)) (numbers_below 1)) ≡ test port
exits_one test last port l =
    let here : port + 0 ≡ port = omega arith in
    ap (λ b. b || (test (port + 0) || false)) (not_past last port l) ∙ or-false (test (port + 0)) ∙ ap test here

granted_one : (test : ℕ → Bool) (last port : ℕ) → port ≤ last → (nat_le (port + 1) (last + 1) && list_all (λ k. test (port + k)) (numbers_below 1)) ≡ test port
granted_one test last port l =
    let here : port + 0 ≡ port = omega arith in
    ap (λ b. b && (test (port + 0) && true)) (fits_one last port l) ∙ and-true (test (port + 0)) ∙ ap test here

-- accesses of any size, by their ports
exits_all : (f g : ℕ → Bool) (last port size : ℕ) → ((k : ℕ) → k ≤ last → f k ≡ not (g k)) → (nat_lt (last + 1) (port + size) || list_any (λ k. f (port + k)) (numbers_below size)) ≡ not (nat_le (port + size) (last + 1) && list_all (λ k. g (port + k)) (numbers_below size))
exits_all f g last port size h =
    elim (cases_lt (last + 1) (port + size)) [
      | inl past ↦
          let a : nat_lt (last + 1) (port + size) ≡ true = grind (arith, nat_tests) in
          let b : nat_le (port + size) (last + 1) ≡ false = grind (arith, nat_tests) in
          rw (a, b) refl
      | inr within ↦
          let a : nat_lt (last + 1) (port + size) ≡ false = grind (arith, nat_tests) in
          let b : nat_le (port + size) (last + 1) ≡ true = grind (arith, nat_tests) in
          rw (a, b) (all_or_one (λ k. f (port + k)) (λ k. g (port + k)) size (λ k low. h (port + k) (omega (arith, within, low))))
    ]

module _ (p : Source) (s : Subject) (a b : List ℕ) (ranges : List PortRange) (is : ranges ≡ port_ranges_of p s) where
  pub ports_kept : PortsAgree a b ranges → (port size : ℕ) → port_exits a b port size ≡ not (are_granted (ports_of p s) port size)
  ports_kept h port size =
      exits_all (port_is_set a b) (λ port. list_any (λ n. n == port) (ports_of p s)) LAST_PORT port size
      (λ k l. sym (exits_one (port_is_set a b) LAST_PORT k l) ∙ h k l ∙ ap not (sym (port_among p s ranges k is (omega (arith, l)))))

  pub ports_back : ((port size : ℕ) → port_exits a b port size ≡ not (are_granted (ports_of p s) port size)) → PortsAgree a b ranges
  ports_back h port l =
      h port 1
      ∙ ap not (granted_one (λ port. list_any (λ n. n == port) (ports_of p s)) LAST_PORT port l ∙ port_among p s ranges port is (omega (arith, l)))

-- ---- MSRs

-- an MSR is granted where one of the ranges has and allows it
pub msr_among : (s : Subject) (msrs : List MsrGrant) (index : ℕ) (write : Bool) → msrs ≡ map msr_grant s.msrs → is_granted (msrs_of s) index write ≡ is_msr_granted msrs index write
unfolding msrs_of
msr_among s msrs index write is = msr_granted s.msrs index write ∙ ap (λ g. is_msr_granted g index write) (sym is)

-- an MSR that a range has lies where the range does
within : (start end low first last index : ℕ) → (nat_le start end && (nat_le end low || (nat_le first start && nat_le end last))) ≡ true → (nat_le start index && nat_le index end) ≡ true → low < index → (first ≤ index → index ≤ last → ⊥) → ⊥
within start end low first last index covered has above out =
    let ends = and_parts (nat_le start index) (nat_le index end) has in
    let a : start ≤ index = leb-true start index ends.0 in
    let b : index ≤ end = leb-true index end ends.1 in
    let c = and_parts (nat_le start end) (nat_le end low || (nat_le first start && nat_le end last)) covered in
    elim (or_cases (nat_le end low) (nat_le first start && nat_le end last) c.1) [
      | inl l ↦ let d : end ≤ low = leb-true end low l in absurd (omega (arith, b, d, above))
      | inr r ↦
          let e = and_parts (nat_le first start) (nat_le end last) r in
          let f : first ≤ start = leb-true first start e.0 in
          let g : end ≤ last = leb-true end last e.1 in
          out (omega (arith, f, a)) (omega (arith, g, b))
    ]

-- none is granted outside both ranges
none_outside : (ranges : List Msrs) (index : ℕ) (write : Bool) → list_all is_msr_range ranges ≡ true → LOW_MSR_LAST < index → (HIGH_MSR_FIRST ≤ index → index ≤ HIGH_MSR_LAST → ⊥) → is_msr_granted (map msr_grant ranges) index write ≡ false
unfolding is_msr_granted
none_outside ranges index write covered above out =
    list_any-map (λ m. has_msr m index && allows m write) msr_grant ranges
    ∙ false_from_ne_true (list_any (λ x. has_msr (msr_grant x) index && allows (msr_grant x) write) ranges)
    (λ h.
    let some = any_some (λ x. has_msr (msr_grant x) index && allows (msr_grant x) write) ranges h in
    let x = some.one in
    within x.start x.end LOW_MSR_LAST HIGH_MSR_FIRST HIGH_MSR_LAST index (passes_in is_msr_range ranges covered x some.within) (and_parts (has_msr (msr_grant x) index) (allows (msr_grant x) write) some.passes).0 above out)

-- and each access exits there
exits_outside : (bitmap : List ℕ) (index : ℕ) (write : Bool) → LOW_MSR_LAST < index → (HIGH_MSR_FIRST ≤ index → index ≤ HIGH_MSR_LAST → ⊥) → msr_exits bitmap index write ≡ true
unfolding msr_exits
exits_outside bitmap index write above out =
    let low : nat_le index LOW_MSR_LAST ≡ false = lt-leb index LOW_MSR_LAST above in
    let high : (nat_le HIGH_MSR_FIRST index && nat_le index HIGH_MSR_LAST) ≡ false =
    false_from_ne_true (nat_le HIGH_MSR_FIRST index && nat_le index HIGH_MSR_LAST)
    (λ h. let e = and_parts (nat_le HIGH_MSR_FIRST index) (nat_le index HIGH_MSR_LAST) h in out (leb-true HIGH_MSR_FIRST index e.0) (leb-true index HIGH_MSR_LAST e.1)) in
    rw (low, high) refl

at_number : (bitmap : List ℕ) (msrs : List MsrGrant) (first count index : ℕ) (write : Bool) → MsrsAgree bitmap msrs first count → first ≤ index → index < first + count → MsrAgrees bitmap msrs index write
at_number bitmap msrs first count index write h low high =
    let same : first + (index - first) ≡ index = omega (arith, low) in
    subst (λ n. MsrAgrees bitmap msrs n write) same (h (index - first) write (omega (arith, low, high)))

pub msrs_kept : (bitmap : List ℕ) (ranges : List Msrs) (msrs : List MsrGrant) → msrs ≡ map msr_grant ranges → list_all is_msr_range ranges ≡ true → MsrsAgree bitmap msrs 0 RANGE_SIZE → MsrsAgree bitmap msrs HIGH_MSR_FIRST RANGE_SIZE → (index : ℕ) (write : Bool) → MsrAgrees bitmap msrs index write
msrs_kept bitmap ranges msrs are covered low high index write =
    elim (cases_lt LOW_MSR_LAST index) [
      | inr l ↦ at_number bitmap msrs 0 RANGE_SIZE index write low (omega arith) (omega (arith, l))
      | inl above ↦
          let outside : (HIGH_MSR_FIRST ≤ index → index ≤ HIGH_MSR_LAST → ⊥) → MsrAgrees bitmap msrs index write = λ out. exits_outside bitmap index write above out ∙ sym (ap not (ap (λ g. is_msr_granted g index write) are ∙ none_outside ranges index write covered above out)) in
          elim (cases_lt index HIGH_MSR_FIRST) [
            | inl l ↦ outside (λ a b. absurd (omega (arith, a, l)))
            | inr f ↦
                elim (cases_lt HIGH_MSR_LAST index) [
                  | inl l ↦ outside (λ a b. absurd (omega (arith, b, l)))
                  | inr l ↦ at_number bitmap msrs HIGH_MSR_FIRST RANGE_SIZE index write high f (omega (arith, l))
                ]
          ]
    ]

-- ---- both

module _ (p : Source) (i : Image) (s : Subject) (q : SubjectPart) (ranges : List PortRange) (msrs : List MsrGrant) (ports_are : ranges ≡ port_ranges_of p s) (msrs_are : msrs ≡ map msr_grant s.msrs) (covered : list_all is_msr_range s.msrs ≡ true) where
  pub bitmaps_kept : BitmapsAgree (page_at i q.iobm 0) (page_at i q.iobm 1) (page_at i q.msrbm 0) ranges msrs → HasBitmaps p i s q
  bitmaps_kept h = record {
    ports = ports_kept p s (page_at i q.iobm 0) (page_at i q.iobm 1) ranges ports_are h.ports;
    msrs = λ index write. msrs_kept (page_at i q.msrbm 0) s.msrs msrs msrs_are covered h.low h.high index write ∙ ap not (sym (msr_among s msrs index write msrs_are));
  }

  pub bitmaps_back : HasBitmaps p i s q → BitmapsAgree (page_at i q.iobm 0) (page_at i q.iobm 1) (page_at i q.msrbm 0) ranges msrs
  bitmaps_back h = record {
    ports = ports_back p s (page_at i q.iobm 0) (page_at i q.iobm 1) ranges ports_are h.ports;
    low = λ k write l. h.msrs (0 + k) write ∙ ap not (msr_among s msrs (0 + k) write msrs_are);
    high = λ k write l. h.msrs (HIGH_MSR_FIRST + k) write ∙ ap not (msr_among s msrs (HIGH_MSR_FIRST + k) write msrs_are);
  }
