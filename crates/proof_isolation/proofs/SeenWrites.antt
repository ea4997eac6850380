-- What is written from outside into things, as members see it: nothing, where no window of theirs shows the thing; and the same in two
-- systems, where a line of direct memory access writes the same in both.
use Rattle.std.proofs.Common.{◌≡◌, ℕ, Bool, true, false, cond, List, [], ◌∷◌, map, Option, Some, None, refl, sym, ap, subst, ◌∙◌, inl, inr, true≢false}
use Rattle.std.specs.Prelude.{◌&&◌, is_some, option_map, slice_get}
use Rattle.std.specs.List.{list_all}
use Rattle.std.specs.Str.{bytes_eq}
use Rattle.std.proofs.lemmas.Bool.{and_from}
use Rattle.subject_model.specs.Memory.{over}
use Rattle.muen_num.proofs.Members.{In, any_in, find_in}
use Rattle.policy_lawful.specs.Contents.{Held}
use Rattle.policy_lawful.specs.Dma.{dma_windows}
use Rattle.policy_lawful.specs.Thing.{Thing, same_thing, state}
use Rattle.policy_lawful.specs.Windows.{windows_of}
use Rattle.policy_lawful.specs.source.Source.{Source}
use Rattle.policy_lawful.specs.source.Subject.{Subject}
use Rattle.subject_model.specs.DeviceRecord.{DeviceRecord, dma_input}
use Rattle.policy_flows.specs.Flows.{is_member}
use Rattle.subject_model.proofs.DeviceWrites.{line_spares, line_things, no_page, page_stays, written}
use Rattle.subject_model.proofs.KeyLaws.{things_apart, value_other}
use Rattle.policy_lawful.proofs.NoPages.{NoPage}
use Rattle.subject_model.specs.Alone.{thing_in}
use Rattle.subject_model.specs.Clock.{ByteWrite, line_writes, takes, with_byte, with_each, with_line}
use Rattle.subject_model.specs.System.{System, is_shown, named, subject_named, with_bytes}
use Rattle.proof_isolation.specs.Agree.{Agree, WritesTheSame, as_seen, is_seen, maps_seen}
use Rattle.proof_isolation.specs.Alike.{AreAlike, is_active}
use Rattle.proof_isolation.proofs.Alike.{alike_left, alike_right}
use Rattle.proof_isolation.proofs.BothRaise.{change_thing_alike}

-- ---- in one system, into things that members don't see

module _ (p : Source) (members : List (List ℕ)) where
  -- what a window of a member shows is seen
  pub seen_by : (s : Subject) → is_member members s ≡ true → subject_named p s.name ≡ Some s → (x : Thing) → is_shown (windows_of p s) x ≡ true → is_seen p members x ≡ true
  seen_by s member is x shown =
      any_in (λ s. is_member members s && is_shown (windows_of p s) x) p.subjects s (find_in (λ x. bytes_eq x.name s.name) p.subjects s is).0 (and_from (is_member members s) (is_shown (windows_of p s) x) member shown)

  -- a change of things that leaves state pages and what members see
  by_things : (y z : System) → z ≡ record y { things = z.things } → ((name : List ℕ) → thing_in z.things (state name) ≡ thing_in y.things (state name))
      → ((x : Thing) → is_seen p members x ≡ true → thing_in z.things x ≡ thing_in y.things x) → AreAlike p p members y z
  by_things y z only pages seen = λ s member is. record {
    page = sym (pages s.name);
    msrs = sym (ap (λ u. named u.msrs s.name) only);
    now = sym (ap (λ u. named u.now s.name) only);
    later = sym (ap (λ u. named u.later s.name) only);
    active = sym (ap (λ u. is_active p u s.name) only);
    shown = λ x shown. sym (seen x (seen_by s member is x shown));
    ports = λ n _. sym (ap (λ u. slice_get u.ports n) only);
  }

  -- a thing that isn't seen is none that is
  not_seen : (x y : Thing) → is_seen p members x ≡ false → is_seen p members y ≡ true → x ≡ y → ⊥
  not_seen x y unseen seen same = true≢false (sym seen ∙ ap (is_seen p members) (sym same) ∙ unseen)

  pub write_outside : (x : Thing) (offset : ℕ) (bytes : List ℕ) (y : System) → NoPage x → is_seen p members x ≡ false → AreAlike p p members y (with_bytes x offset bytes y)
  write_outside x offset bytes y none unseen =
      by_things y (with_bytes x offset bytes y) refl (λ name. value_other same_thing x (state name) (λ old. over old offset bytes) y.things (things_apart x (state name) (none name)))
      (λ v seen. value_other same_thing x v (λ old. over old offset bytes) y.things (things_apart x v (not_seen x v unseen seen)))

  pub line_outside : (device : List ℕ) (address : ℕ) (bytes : List ℕ) (y : System) → maps_seen p members device ≡ false → AreAlike p p members y (takes p (dma_input device address bytes) y)
  line_outside device address bytes y unseen =
      let ws = line_writes p device address bytes in
      by_things y (with_line ws y) (line_things ws y) (page_stays p device address bytes y)
      (λ x seen. line_spares x ws y (λ w within same.
      let at = written p device address bytes w within in
      true≢false (sym (any_in (λ w. is_seen p members w.thing) (dma_windows p device) at.window at.its (ap (is_seen p members) (at.shows ∙ same) ∙ seen)) ∙ unseen)))

-- ---- in two

pub write_both : (p q : Source) (members : List (List ℕ)) (x : Thing) (offset : ℕ) (bytes : List ℕ) (y z : System) → AreAlike p q members y z → AreAlike p q members (with_bytes x offset bytes y) (with_bytes x offset bytes z)
write_both p q members x offset bytes y z h = λ s member is.
    let a = h s member is in
    record {
      page = change_thing_alike x (state s.name) (λ old. over old offset bytes) y.things z.things a.page;
      msrs = a.msrs;
      now = a.now;
      later = a.later;
      active = a.active;
      shown = λ v shown. change_thing_alike x v (λ old. over old offset bytes) y.things z.things (a.shown v shown);
      ports = a.ports;
    }

all_kept : {X Y : Type 0} (f : X → Y) (os : List (Option X)) → list_all is_some (map (option_map f) os) ≡ list_all is_some os
all_kept f [] = refl
all_kept f (None ∷ os) = refl
all_kept f (Some x ∷ os) = all_kept f os

module _ (p q : Source) (members : List (List ℕ)) (f g : Held) (r t : DeviceRecord) (ends : ℕ) (agree : Agree members p q f g r t ends) where
  byte_both : (w v : ByteWrite) → NoPage w.thing → NoPage v.thing → as_seen p members w ≡ as_seen q members v → (y z : System) → AreAlike p q members y z → AreAlike p q members (with_byte (Some w) y) (with_byte (Some v) z)
  byte_both w v none none' same y z h = by_sight (is_seen p members w.thing) (is_seen q members v.thing) refl refl same
    where
      by_sight : (b c : Bool) → is_seen p members w.thing ≡ b → is_seen q members v.thing ≡ c → cond b (Some w) None ≡ cond c (Some v) None → AreAlike p q members (with_byte (Some w) y) (with_byte (Some v) z)
      by_sight true true e e' k = let one : w ≡ v = cc (k) in subst (λ v. AreAlike p q members (with_byte (Some w) y) (with_byte (Some v) z)) one (write_both p q members w.thing w.offset (w.value ∷ []) y z h)
      by_sight true false e e' k = absurd (cc (k))
      by_sight false true e e' k = absurd (cc (k))
      by_sight false false e e' k =
          alike_left p q members y (with_byte (Some w) y) (with_byte (Some v) z) (write_outside p members w.thing w.offset (w.value ∷ []) y none e)
          (alike_right p q members f g r t ends agree y z (with_byte (Some v) z) (write_outside q members v.thing v.offset (v.value ∷ []) z none' e') h)

  each_both : (ws vs : List (Option ByteWrite)) → ((w : ByteWrite) → In (Some w) ws → NoPage w.thing) → ((v : ByteWrite) → In (Some v) vs → NoPage v.thing)
      → map (option_map (as_seen p members)) ws ≡ map (option_map (as_seen q members)) vs → (y z : System) → AreAlike p q members y z → AreAlike p q members (with_each ws y) (with_each vs z)
  each_both [] [] none none' same y z h = h
  each_both [] (v ∷ vs) none none' same y z h = absurd (cc (same))
  each_both (w ∷ ws) [] none none' same y z h = absurd (cc (same))
  each_both (None ∷ ws) (None ∷ vs) none none' same y z h = each_both ws vs (λ w i. none w (inr i)) (λ v i. none' v (inr i)) (cc (same)) y z h
  each_both (None ∷ ws) (Some v ∷ vs) none none' same y z h = absurd (cc (same))
  each_both (Some w ∷ ws) (None ∷ vs) none none' same y z h = absurd (cc (same))
  each_both (Some w ∷ ws) (Some v ∷ vs) none none' same y z h =
      each_both ws vs (λ w i. none w (inr i)) (λ v i. none' v (inr i)) (cc (same)) (with_byte (Some w) y) (with_byte (Some v) z)
      (byte_both w v (none w (inl refl)) (none' v (inl refl)) (cc (same)) y z h)

  pub line_both : (device : List ℕ) (address : ℕ) (bytes : List ℕ) (y z : System) → WritesTheSame members p q (dma_input device address bytes) → AreAlike p q members y z
      → AreAlike p q members (takes p (dma_input device address bytes) y) (takes q (dma_input device address bytes) z)
  line_both device address bytes y z same h =
      let ws = line_writes p device address bytes in
      let vs = line_writes q device address bytes in
      let each : AreAlike p q members (with_each ws y) (with_each vs z) = each_both ws vs (no_page p device address bytes) (no_page q device address bytes) same y z h in
      let all : list_all is_some ws ≡ list_all is_some vs = sym (all_kept (as_seen p members) ws) ∙ ap (list_all is_some) same ∙ all_kept (as_seen q members) vs in
      subst (λ b. AreAlike p q members (cond b (with_each ws y) y) (with_line vs z)) (sym all)
      (elim (list_all is_some vs) as (λ b. AreAlike p q members (cond b (with_each ws y) y) (cond b (with_each vs z) z)) [ true ↦ each | false ↦ h ])
