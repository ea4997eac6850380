-- Exactly those accesses of ports and MSRs don't exit that the policy grants the subject.
use Rattle.std.proofs.Common.{◌≡◌, ℕ, zero, suc, ◌+◌, ◌*◌, ◌<◌, ◌==◌, Bool, true, not, List, [], ◌∷◌, length, map, take, drop, refl, sym, ap, ◌∙◌, arith, inl, inr, length-drop}
use Rattle.std.specs.Prelude.{◌&&◌, nat_le}
use Rattle.std.specs.List.{list_all, list_any}
use Rattle.std.proofs.lemmas.Bool.{cases_Bool, leb-true, lt-ltb}
use Rattle.std.proofs.lemmas.List.{take_all}
use Rattle.std.proofs.lemmas.List.Folds.{list_all-append}
use Rattle.expand_kernel.specs.Resources.{are_granted, is_granted, msr_grant, msrs_of, port_ranges_of, ports_of}
use Rattle.expand_kernel.proofs.GrantedMsrs.{msr_granted}
use Rattle.image_emit.specs.Made.{IsMade, Made, image_of, policy_of}
use Rattle.image_emit.proofs.BySubject.{each_subject}
use Rattle.image_emit.proofs.SpansOfKernel.{kernel_bytes_at}
use Rattle.proof_build.proofs.BitmapsOfPorts.{any_port}
use Rattle.image_soundness.specs.Memory.{bytes_at, page_at}
use Rattle.image_soundness.specs.Sound.{ForEachSubject, HasBitmaps}
use Rattle.subject_emit.specs.Ports.{is_granted as is_port_granted, is_granted_access}
use Rattle.machine_layout.specs.Exits.{msr_exits, port_exits}
use Rattle.policy_lawful.specs.MsrGrants.{is_granted as is_msr_granted}
use Rattle.muen_num.specs.Range.{numbers_below}
use Rattle.muen_num.specs.declared.limits.TheConstants.{LAST_PORT, PAGE}
use Rattle.muen_num.specs.declared.tag.TagPart.TheVariants.{Iobm, Msrbm}
use Rattle.policy_lawful.specs.Resolution.{Resolution, source_of, subject_named}
use Rattle.policy_lawful.specs.declared.resolved.Subject.{Subject as ResolvedSubject}
use Rattle.policy_lawful.specs.resources.PortRange.{PortRange}
use Rattle.policy_lawful.specs.source.Source.{Source}
use Rattle.policy_lawful.specs.source.Subject.{Subject}
use Rattle.expand_kernel.specs.ByIndex.{kernel_first}

-- ---- ports

all_below : (f g : ℕ → Bool) (n : ℕ) → ((k : ℕ) → k < n → f k ≡ g k) → list_all f (numbers_below n) ≡ list_all g (numbers_below n)
all_below f g zero h = refl
all_below f g (suc n) h =
    let rest = all_below f g n (λ k l. h k (omega (arith, l))) in
    let last = h n (omega arith) in
    list_all-append f (numbers_below n) (n ∷ [])
    ∙ (λ i. rest i && (last i && true))
    ∙ sym (list_all-append g (numbers_below n) (n ∷ []))

-- a port is granted that one of the ranges has
port_granted : (p : Source) (s : Subject) (ranges : List PortRange) (port : ℕ) → ranges ≡ port_ranges_of p s → port < 65536 → is_port_granted ranges port ≡ list_any (λ n. n == port) (ports_of p s)
unfolding is_port_granted
port_granted p s ranges port is l =
    ap (λ ranges. is_port_granted ranges port) is
    ∙ sym (any_port p s port ∙ ap (λ b. b && is_port_granted (port_ranges_of p s) port) (lt-ltb port 65536 l))

access_granted : (p : Source) (s : Subject) (ranges : List PortRange) (port size : ℕ) → ranges ≡ port_ranges_of p s → is_granted_access ranges port size ≡ are_granted (ports_of p s) port size
unfolding is_granted_access
access_granted p s ranges port size is = elim (cases_Bool (nat_le (port + size) (LAST_PORT + 1))) [
  | inl within ↦
      let l = leb-true (port + size) (LAST_PORT + 1) within in
      ap (λ b. nat_le (port + size) (LAST_PORT + 1) && b)
      (all_below (λ k. is_port_granted ranges (port + k)) (λ k. list_any (λ n. n == port + k) (ports_of p s)) size (λ k low. port_granted p s ranges (port + k) is (omega (arith, l, low))))
  | inr past ↦ rw past refl
]

-- ---- MSRs

granted_of : (r : Resolution) (s : ResolvedSubject) (index : ℕ) (write : Bool) → is_granted (msrs_of (subject_named r s)) index write ≡ is_msr_granted (map msr_grant s.msrs) index write
unfolding msrs_of
granted_of r s index write = msr_granted s.msrs index write

-- ---- both

two_pages : (bytes : List ℕ) → length bytes ≡ 2 * PAGE → take PAGE (drop PAGE bytes) ≡ drop PAGE bytes
two_pages bytes long = take_all PAGE (drop PAGE bytes) (omega (arith, long, length-drop PAGE bytes))

pub bitmaps : (m : Made) → IsMade m → ForEachSubject (source_of (policy_of m)) (image_of m) (HasBitmaps (source_of (policy_of m)) (image_of m))
bitmaps m h =
    each_subject m h (HasBitmaps (source_of (policy_of m)) (image_of m))
    (λ k s g t q at.
    let i = image_of m in
    let first = kernel_first (policy_of m) k in
    let named = subject_named (policy_of m) s in
    let ports : bytes_at i (first + 2) ≡ q.ports = kernel_bytes_at m h k s g t q at 2 (2 * PAGE) Iobm q.ports refl refl in
    let msrs : bytes_at i (first + 3) ≡ q.msrs = kernel_bytes_at m h k s g t q at 3 PAGE Msrbm q.msrs refl refl in
    let a : page_at i (first + 2) 0 ≡ take PAGE q.ports = ap (λ (b : List ℕ). take PAGE (drop (PAGE * 0) b)) ports in
    let b : page_at i (first + 2) 1 ≡ drop PAGE q.ports = ap (λ (b : List ℕ). take PAGE (drop (PAGE * 1) b)) ports ∙ two_pages q.ports at.pages.ports_len in
    let c : page_at i (first + 3) 0 ≡ q.msrs = ap (λ (b : List ℕ). take PAGE (drop (PAGE * 0) b)) msrs ∙ take_all PAGE q.msrs (omega (arith, at.pages.msrs_len)) in
    record {
      ports = λ port size.
          (λ j. port_exits (a j) (b j) port size) ∙ at.pages.ports port size ∙ ap not (access_granted (source_of (policy_of m)) named g.ports port size at.grants.ports);
      msrs = λ index write.
          ap (λ x. msr_exits x index write) c ∙ at.pages.msrs index write ∙ ap not (ap (λ x. is_msr_granted x index write) at.grants.msrs ∙ sym (granted_of (policy_of m) s index write));
    })
