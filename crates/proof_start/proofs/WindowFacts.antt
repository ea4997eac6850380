-- What a subject's accesses reach: a byte of a thing, or of the state page of another subject on the same CPU.
use Rattle.std.proofs.Common.{◌≡◌, ℕ, ◌+◌, ◌-◌, ◌%◌, ◌<◌, ◌≤◌, ◌⊎◌, inl, inr, true, false, cond, List, [], ◌∷◌, ◌++◌, length, Some, None, refl, sym, ap, subst, ◌∙◌, arith, true≢false}
use Rattle.std.specs.Prelude.{◌==◌, ◌&&◌, nat_le, nat_lt, slice_get}
use Rattle.std.specs.List.{find, list_any}
use Rattle.std.specs.Str.{bytes_eq}
use Rattle.std.proofs.lemmas.Bool.{and_parts, eqb-true, leb-true, ltb-true}
use Rattle.std.proofs.lemmas.Map.Keys.{any_passes_from_place}
use Rattle.subject_model.specs.System.{is_shown}
use Rattle.muen_num.proofs.Lists.{found_among}
use Rattle.muen_num.specs.declared.access.AccessKind.{AccessKind}
use Rattle.policy_lawful.specs.Lawful.{IsLawful}
use Rattle.policy_lawful.specs.Contents.{Held, initial_bytes}
use Rattle.policy_lawful.specs.Thing.{Thing, same_thing, state, things_of}
use Rattle.policy_lawful.specs.Windows.{Window, access_by, access_of, byte, holds, violation, window, windows_of}
use Rattle.policy_lawful.specs.Rights.{allows}
use Rattle.policy_lawful.specs.source.Source.{Source}
use Rattle.policy_lawful.specs.source.Subject.{Subject}
use Rattle.muen_num.proofs.Lookups.{found_passes, found_index}
use Rattle.policy_lawful.proofs.SameThings.{same_thing_self}
use Rattle.image_soundness.proofs.WindowsOn.{IsOn, each_found, each_window, windows_aligned}

-- ---- what an access reaches

-- a byte of a thing of the policy
pub record IsByteOf (p : Source) (x : Thing) (offset : ℕ) : Type 0 where
  pub declared : list_any (λ y. same_thing y x) (things_of p) ≡ true
  pub within : (files : Held) → offset < length (initial_bytes p files x)

-- a byte of the state page of another subject on the CPU of this one, which may monitor it
pub record IsWatched (p : Source) (s : ℕ) (n : Subject) (x : Thing) (offset : ℕ) : Type 0 where
  pub number : ℕ
  pub subject : Subject
  pub at : slice_get p.subjects number ≡ Some subject
  pub monitored : list_any (λ m. bytes_eq m.subject subject.name) n.monitors ≡ true
  pub page : state subject.name ≡ x
  pub cpu : subject.cpu ≡ n.cpu
  pub other : number ≡ s → ⊥
  pub within : offset < 4096

-- what an access at this address reaches
pub record IsSeen (p : Source) (s : ℕ) (n : Subject) (addr : ℕ) (x : Thing) (offset : ℕ) : Type 0 where
  pub there : IsByteOf p x offset ⊎ IsWatched p s n x offset
  pub shown : is_shown (windows_of p n) x ≡ true
  pub aligned : offset % 4096 ≡ addr % 4096

-- the window that an access is by
record IsReached (windows : List (Window Thing)) (addr : ℕ) (x : Thing) (offset : ℕ) : Type 0 where
  by : Window Thing
  found : find (λ w. holds w addr) windows ≡ Some by
  thing : by.thing ≡ x
  start : addr - by.guest ≡ offset

reached : (windows : List (Window Thing)) (kind : AccessKind) (addr : ℕ) (x : Thing) (offset : ℕ) → access_of windows addr kind ≡ byte x offset → IsReached windows addr x offset
reached windows kind addr x offset h =
    elim (find (λ w. holds w addr) windows) as (λ o. find (λ w. holds w addr) windows ≡ o → access_by o addr kind ≡ byte x offset → IsReached windows addr x offset) [
      | None ↦ λ _ k. absurd (cc)
      | Some w ↦ λ is k.
          elim (allows w.rights kind) as (λ b. cond b (byte w.thing (addr - w.guest)) (violation (Some w.rights)) ≡ byte x offset → IsReached windows addr x offset) [
            | true ↦ λ e.
                let thing : w.thing ≡ x = cc in
                let start : addr - w.guest ≡ offset = cc in
                record { by = w; found = is; thing = thing; start = start }
            | false ↦ λ e. absurd (cc)
          ] k
    ] refl h

module _ (p : Source) (s : ℕ) (n : Subject) (addr offset : ℕ) (w : Window Thing) (inside : offset < w.size) where
  byte_of : IsOn p s n w → IsByteOf p w.thing offset ⊎ IsWatched p s n w.thing offset
  byte_of (inl thing) = inl (record {
    declared = thing.declared;
    within = λ files. let long = thing.bytes files in omega (arith, long, inside);
  })
  byte_of (inr page) =
      let size : w.size ≡ 4096 = page.size in
      inr (record {
        number = page.number;
        subject = page.subject;
        at = page.at;
        monitored = page.monitored;
        page = page.page;
        cpu = page.cpu;
        other = page.other;
        within = omega (arith, size, inside);
      })

-- **what a subject reaches**: a byte of a thing, or of the state page of another subject on its CPU, on which it has a window
pub sees : (p : Source) → IsLawful p → (s : ℕ) (n : Subject) (kind : AccessKind) (addr : ℕ) (x : Thing) (offset : ℕ) → slice_get p.subjects s ≡ Some n → access_of (windows_of p n) addr kind ≡ byte x offset
    → IsSeen p s n addr x offset
sees p lawful s n kind addr x offset at h =
    let r = reached (windows_of p n) kind addr x offset h in
    let w = r.by in
    let index = found_index (λ w. holds w addr) (windows_of p n) w r.found in
    let ends = and_parts (nat_le w.guest addr) (nat_lt addr (w.guest + w.size)) (found_passes (λ w. holds w addr) (windows_of p n) w r.found) in
    let from : w.guest ≤ addr = leb-true w.guest addr ends.0 in
    let below : addr < w.guest + w.size = ltb-true addr (w.guest + w.size) ends.1 in
    let whole : w.guest % 4096 ≡ 0 = eqb-true (w.guest % 4096) 0 (found_among (λ w. holds w addr) (λ w. w.guest % 4096 == 0) (windows_of p n) w r.found (windows_aligned p lawful s n at)) in
    let is : addr - w.guest ≡ offset = r.start in
    let inside : offset < w.size = omega (arith, from, below, is) in
    record {
      there = subst (λ x. IsByteOf p x offset ⊎ IsWatched p s n x offset) r.thing
          (byte_of p s n addr offset w inside (each_found (IsOn p s n) (λ w. holds w addr) (windows_of p n) w (each_window p lawful s n at) r.found));
      shown = any_passes_from_place (λ w. same_thing w.thing x) (windows_of p n) index.0 w index.1 (ap (same_thing w.thing) (sym r.thing) ∙ same_thing_self w.thing);
      aligned = omega (arith, from, is, whole);
    }
