-- The turn of a subject outside a closed set changes nothing for a member.
use Rattle.std.proofs.Common.{◌≡◌, ℕ, ◌≤◌, true, false, cond, List, length, Option, Some, None, refl, sym, ap, subst, ◌∙◌, inl, inr, arith, true≢false}
use Rattle.std.specs.Prelude.{◌==◌, ◌&&◌, nat_lt, not, option_and_then, option_map, slice_get}
use Rattle.std.specs.List.{All, count_by, find, list_all, list_any, sum_by}
use Rattle.std.specs.Option.{option_map_or}
use Rattle.std.specs.Str.{bytes_eq}
use Rattle.std.proofs.lemmas.Bool.{and_parts, cases_eq, eqb-true, false_from_ne_true}
use Rattle.std.proofs.lemmas.Slice.Eq.{bytes_eq-Decides}
use Rattle.muen_num.proofs.ChangeLaws.{element_changes, others_stay}
use Rattle.muen_num.specs.ListChange.{change_at}
use Rattle.subject_model.specs.Pending.{without}
use Rattle.muen_num.proofs.Members.{In, all_in, any_some, find_in, passes_in}
use Rattle.muen_num.specs.declared.mode.EventMode.{EventMode}
use Rattle.muen_num.specs.declared.mode.EventMode.TheVariants.{Asap, Async, Own as OwnMode, Switch}
use Rattle.policy_lawful.proofs.KeptMembers.{MembersKept}
use Rattle.policy_lawful.specs.Lawful.{IsLawful}
use Rattle.policy_lawful.specs.MoreRules.{fits_mode, some_group_lists}
use Rattle.policy_lawful.specs.Rules.{is_group, is_on, subject_cpu, times_listed}
use Rattle.policy_lawful.specs.Events.{Raised, event_of}
use Rattle.policy_lawful.specs.Frames.{group_of}
use Rattle.policy_lawful.specs.source.Group.{Group}
use Rattle.policy_lawful.specs.source.Source.{Source}
use Rattle.policy_lawful.specs.source.SourceWay.{SourceWay}
use Rattle.policy_lawful.specs.source.Subject.{Subject}
use Rattle.policy_flows.specs.Flows.{IsClosed, flows_to, is_member, reaches}
use Rattle.subject_model.proofs.KeyLaws.{names_apart, value_other}
use Rattle.subject_model.proofs.SystemLaws.{raised_alone}
use Rattle.subject_model.specs.System.{System, happens, happens_as, named, pends_now, raised_by, took, with_active}
use Rattle.proof_views.proofs.OwnLines.{listed_passes}
use Rattle.proof_views.specs.Members.{lists}
use Rattle.proof_isolation.specs.Alike.{is_active}
use Rattle.proof_isolation.proofs.Counts.{only_index, passing_counted, same_index}
use Rattle.proof_isolation.proofs.Switches.{raised_fits}

-- ---- outside a closed set

module _ (p : Source) (members : List (List ℕ)) (closed : IsClosed p members) (u s : Subject) (in_u : In u p.subjects) (in_s : In s p.subjects) (member : is_member members s ≡ true) (outside : is_member members u ≡ false) where
  pub no_flow : flows_to p u s ≡ true → ⊥
  no_flow h =
      let of_s = all_in (λ s. is_member members s ≡ true → All (λ u. flows_to p u s ≡ true → is_member members u ≡ true) p.subjects) p.subjects closed.sources s in_s member in
      true≢false (sym (all_in (λ u. flows_to p u s ≡ true → is_member members u ≡ true) p.subjects of_s u in_u h) ∙ outside)

  pub other_names : u.name ≡ s.name → ⊥
  other_names same = true≢false (sym member ∙ ap (λ n. list_any (λ name. bytes_eq name n) members) (sym same) ∙ outside)

-- ---- groups

-- a subject with this name
pub record Named (p : Source) (name : List ℕ) : Type 0 where
  pub one : Subject
  pub within : In one p.subjects
  pub called : one.name ≡ name

pub by_cpu : (p : Source) (name : List ℕ) (cpu : ℕ) (o : Option Subject) → find (λ s. bytes_eq s.name name) p.subjects ≡ o → is_on (option_map (λ s. s.cpu) o) cpu ≡ true → Named p name
by_cpu p name cpu None is on = absurd (cc (on))
by_cpu p name cpu (Some q) is on =
    let at = find_in (λ s. bytes_eq s.name name) p.subjects q is in
    record { one = q; within = at.0; called = (bytes_eq-Decides q.name name).0 at.1 }

module _ (p : Source) (kept : MembersKept p) where
  listed_few : (s : Subject) → In s p.subjects → sum_by (λ g. count_by (λ n. bytes_eq n s.name) g.subjects) p.scheduling.groups ≤ 1
  listed_few s in_s = let one = eqb-true (times_listed p s.name) 1 (passes_in (λ s. times_listed p s.name == 1) p.subjects kept.once s in_s) in omega (arith, one)

  listing_counts : (name : List ℕ) (g : Group) → lists name g ≡ true → 1 ≤ count_by (λ n. bytes_eq n name) g.subjects
  listing_counts name g h = let at = any_some (λ n. bytes_eq n name) g.subjects h in passing_counted (λ n. bytes_eq n name) g.subjects at.one at.within at.passes

  -- the group that lists it is its own
  pub own_group : (s : Subject) → In s p.subjects → (k : ℕ) (g : Group) → slice_get p.scheduling.groups k ≡ Some g → lists s.name g ≡ true → group_of p s.name ≡ Some k
  own_group s in_s k g at h =
      only_index (lists s.name) (λ g. count_by (λ n. bytes_eq n s.name) g.subjects) (λ g. listing_counts s.name g) p.scheduling.groups k g (listed_few s in_s) at h

  -- two that one group lists are in one group
  pub one_group : (a b : Subject) → In a p.subjects → In b p.subjects → some_group_lists p a.name b.name ≡ true → group_of p b.name ≡ group_of p a.name
  one_group a b in_a in_b h =
      let same = same_index (lists a.name) (lists b.name) (λ g. count_by (λ n. bytes_eq n a.name) g.subjects) (λ g. count_by (λ n. bytes_eq n b.name) g.subjects) (λ g. listing_counts a.name g) (λ g. listing_counts b.name g) p.scheduling.groups (listed_few a in_a) (listed_few b in_b) h in
      ap (λ n. cond (nat_lt n (length p.scheduling.groups)) (Some n) None) (sym same)

  -- a name that a group lists is that of a subject
  declared : (name : List ℕ) (g : Group) → In g p.scheduling.groups → lists name g ≡ true → Named p name
  declared name g within h =
      let names = (and_parts (nat_lt 0 (length g.subjects)) (list_all (λ name. is_on (subject_cpu p name) g.cpu) g.subjects) (passes_in (is_group p) p.scheduling.groups kept.groups g within)).1 in
      by_cpu p name g.cpu (find (λ s. bytes_eq s.name name) p.subjects) refl (listed_passes bytes_eq (λ a b. (bytes_eq-Decides a b).0) (λ name. is_on (subject_cpu p name) g.cpu) g.subjects name names h)

  -- so one that is listed beside a subject is in its group
  pub group_by_name : (a : Subject) → In a p.subjects → (name : List ℕ) → some_group_lists p a.name name ≡ true → group_of p name ≡ group_of p a.name
  group_by_name a in_a name both =
      let at = any_some (λ g. list_any (λ n. bytes_eq n a.name) g.subjects && list_any (λ n. bytes_eq n name) g.subjects) p.scheduling.groups both in
      let b = declared name at.one at.within (and_parts (lists a.name at.one) (lists name at.one) at.passes).1 in
      ap (group_of p) (sym b.called) ∙ one_group a b.one in_a b.within (subst (λ n. some_group_lists p a.name n ≡ true) (sym b.called) both)

-- ---- events

-- the pending vectors of whom it doesn't reach stay
module _ (p : Source) (name : List ℕ) where
  pub record Pends (y z : System) : Type 0 where
    pub now : named z.now name ≡ named y.now name
    pub later : named z.later name ≡ named y.later name

  pub raised_pends : (u : Subject) (way : Option SourceWay) (y : System) → ((w : SourceWay) → way ≡ Some w → reaches (event_of p u w) name ≡ true → ⊥) → Pends y (raised_by p u way y)
  raised_pends u None y ne = record { now = refl; later = refl }
  raised_pends u (Some way) y ne = by_event (event_of p u way) refl
    where
      by_event : (o : Option Raised) → event_of p u way ≡ o → Pends y (happens p (event_of p u way) y)
      by_event None is = subst (λ o. Pends y (happens p o y)) (sym is) (record { now = refl; later = refl })
      by_event (Some e) is =
          let others = raised_alone p u way e y is in
          let other : e.target.subject ≡ name → ⊥ = λ same. ne way refl (ap (λ o. reaches o name) is ∙ (bytes_eq-Decides e.target.subject name).1 same) in
          record { now = others.now name other; later = others.later name other }

  pub took_pends : (other : List ℕ) (v : Option ℕ) (y : System) → (other ≡ name → ⊥) → Pends y (took other v y)
  took_pends other v y ne =
      record { now = value_other bytes_eq other name (without v) y.now (names_apart other name ne); later = value_other bytes_eq other name (without v) y.later (names_apart other name ne) }

-- ---- who is active

-- who isn't in the group isn't touched, and in the group neither is active before and after
module _ (p : Source) (name : List ℕ) (y : System) where
  at_own : (g : ℕ) (a b : List ℕ) → slice_get y.active g ≡ Some a → bytes_eq a name ≡ false → bytes_eq b name ≡ false → (o : Option ℕ)
      → option_map_or (λ member. bytes_eq member name) (option_and_then (λ k. slice_get (change_at g (λ _. b) y.active) k) o) false ≡ option_map_or (λ member. bytes_eq member name) (option_and_then (λ k. slice_get y.active k) o) false
  at_own g a b at before after None = refl
  at_own g a b at before after (Some k) =
      elim (cases_eq k g) as (λ _. option_map_or (λ member. bytes_eq member name) (slice_get (change_at g (λ _. b) y.active) k) false ≡ option_map_or (λ member. bytes_eq member name) (slice_get y.active k) false) [
        | inl e ↦
            let now : slice_get (change_at g (λ _. b) y.active) k ≡ Some b = ap (slice_get (change_at g (λ _. b) y.active)) e ∙ element_changes g (λ _. b) y.active ∙ ap (option_map (λ _. b)) at in
            let was : slice_get y.active k ≡ Some a = ap (slice_get y.active) e ∙ at in
            ap (λ o. option_map_or (λ member. bytes_eq member name) o false) now ∙ after ∙ sym (ap (λ o. option_map_or (λ member. bytes_eq member name) o false) was ∙ before)
        | inr ne ↦ ap (λ o. option_map_or (λ member. bytes_eq member name) o false) (others_stay g k (λ _. b) y.active ne)
      ]

module _ (p : Source) (lawful : IsLawful p) (kept : MembersKept p) (u s : Subject) (in_u : In u p.subjects) (in_s : In s p.subjects) (other : u.name ≡ s.name → ⊥) (y : System) (k : ℕ) (g : Group) (there : slice_get p.scheduling.groups k ≡ Some g) (listed : lists u.name g ≡ true) (acts : slice_get y.active k ≡ Some u.name) where
  its_group : group_of p u.name ≡ Some k
  its_group = own_group p kept u in_u k g there listed

  unnamed : (a b : List ℕ) → (a ≡ b → ⊥) → bytes_eq a b ≡ false
  unnamed a b ne = false_from_ne_true (bytes_eq a b) (λ e. ne ((bytes_eq-Decides a b).0 e))

  -- a handover by it
  handed : (e : Raised) → e.mode ≡ Switch → fits_mode p e.mode u.name e.target.subject ≡ true → (e.target.subject ≡ s.name → ⊥) → (z : System) → z.active ≡ y.active → is_active p (with_active (group_of p e.target.subject) e.target.subject z) s.name ≡ is_active p y s.name
  handed e mode fit ne z same =
      let fits : fits_mode p Switch u.name e.target.subject ≡ true = subst (λ m. fits_mode p m u.name e.target.subject ≡ true) mode fit in
      let both = (and_parts (not (bytes_eq u.name e.target.subject)) (some_group_lists p u.name e.target.subject) fits).1 in
      let to : group_of p e.target.subject ≡ Some k = group_by_name p kept u in_u e.target.subject both ∙ its_group in
      ap (λ o. is_active p (with_active o e.target.subject z) s.name) to
      ∙ ap (λ active. option_map_or (λ member. bytes_eq member s.name) (option_and_then (λ i. slice_get (change_at k (λ _. e.target.subject) active) i) (group_of p s.name)) false) same
      ∙ at_own p s.name y k u.name e.target.subject acts (unnamed u.name s.name other) (unnamed e.target.subject s.name ne) (group_of p s.name)

  by_raised_mode : (e : Raised) (mode : EventMode) → e.mode ≡ mode → fits_mode p e.mode u.name e.target.subject ≡ true → (e.target.subject ≡ s.name → ⊥) → (z : System) → z.active ≡ y.active → is_active p (happens_as p mode e.target z) s.name ≡ is_active p y s.name
  by_raised_mode e Asap is fit ne z same = ap (λ active. option_map_or (λ member. bytes_eq member s.name) (option_and_then (λ i. slice_get active i) (group_of p s.name)) false) same
  by_raised_mode e Async is fit ne z same = ap (λ active. option_map_or (λ member. bytes_eq member s.name) (option_and_then (λ i. slice_get active i) (group_of p s.name)) false) same
  by_raised_mode e OwnMode is fit ne z same = ap (λ active. option_map_or (λ member. bytes_eq member s.name) (option_and_then (λ i. slice_get active i) (group_of p s.name)) false) same
  by_raised_mode e Switch is fit ne z same = handed e is fit ne (pends_now e.target z) same

  pub by_raised_event : (way : SourceWay) (o : Option Raised) → event_of p u way ≡ o → (reaches o s.name ≡ true → ⊥) → (z : System) → z.active ≡ y.active → is_active p (happens p o z) s.name ≡ is_active p y s.name
  by_raised_event way None is ne z same = ap (λ active. option_map_or (λ member. bytes_eq member s.name) (option_and_then (λ i. slice_get active i) (group_of p s.name)) false) same
  by_raised_event way (Some e) is ne z same =
      by_raised_mode e e.mode refl (raised_fits p lawful u in_u way e is) (λ it. ne ((bytes_eq-Decides e.target.subject s.name).1 it)) z same

  pub raised_active : (way : Option SourceWay) → ((w : SourceWay) → reaches (event_of p u w) s.name ≡ true → ⊥) → (z : System) → z.active ≡ y.active → is_active p (raised_by p u way z) s.name ≡ is_active p y s.name
  raised_active None ne z same = ap (λ active. option_map_or (λ member. bytes_eq member s.name) (option_and_then (λ i. slice_get active i) (group_of p s.name)) false) same
  raised_active (Some way) ne z same = by_raised_event way (event_of p u way) refl (ne way) z same
