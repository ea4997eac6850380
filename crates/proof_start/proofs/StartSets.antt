-- At the start nothing is pending, the first member of each group is active, and nobody is on a CPU.
use Rattle.std.proofs.Common.{◌≡◌, ℕ, Bool, true, false, List, [], length, map, replicate, get_or, Option, Some, None, refl, sym, ap, subst, ◌∙◌, arith}
use Rattle.std.specs.Prelude.{◌==◌, ◌||◌, nat_lt, not, option_map, slice_get, unwrap_or}
use Rattle.std.specs.List.{All, enumerate_from}
use Rattle.std.proofs.lemmas.Bool.{eq-eqb, eqb-true}
use Rattle.std.proofs.lemmas.List.{get_or-replicate, length-replicate}
use Rattle.std.proofs.lemmas.List.Elements.{All-replicate}
use Rattle.std.proofs.lemmas.Option.{slice_get-map, unwrap_or-slice_get}
use Rattle.subject_model.specs.System.{named, start_of, subject_named}
use Rattle.proof_turns.specs.Router.{started as router_started}
use Rattle.proof_turns.specs.Vectors.{no_marks, no_vectors}
use Rattle.image_soundness.specs.Sound.{IsSound}
use Rattle.image_pack.specs.ImageConditions.{IsGroup, KeepsConditions, IsSubjectPart as IsImageSubject}
use Rattle.image_pack.specs.declared.parts.Image.{Image}
use Rattle.image_pack.specs.declared.parts.SubjectPart.{SubjectPart}
use Rattle.image_pack.specs.plan.GroupPart.{GroupPart}
use Rattle.muen_num.proofs.Lists.{all_at, passes_at, there}
use Rattle.muen_num.proofs.Options.{from_some, one_value}
use Rattle.policy_lawful.specs.Contents.{Held}
use Rattle.policy_lawful.specs.Frames.{first_member}
use Rattle.policy_lawful.specs.source.Source.{Source}
use Rattle.policy_lawful.specs.source.Subject.{Subject}
use Rattle.proof_turns.specs.Fixed.{IsFixed}
use Rattle.proof_turns.specs.Ground.{Ground, subject_name_at}
use Rattle.guest_isa.specs.Words.{IsWord}
use Rattle.proof_turns.specs.Held.{IsSameSet, SameSet}
use Rattle.proof_turns.specs.Stands.{CpusStand, FitsCpu, IsMember, RouterStands, SameEntered}
use Rattle.vmx_machine.specs.Machine.{fresh}
use Rattle.vmx_machine.specs.MsrFile.{most}
use Rattle.muen_num.specs.Numbers.{zeros}
use Rattle.vmx_machine.specs.declared.cpu.Cpu.{Cpu}
use Rattle.proof_start.specs.GroundOf.{ground_of}
use Rattle.subject_model.proofs.StartLists.{named_map, numbered_at, replicated, replicated_there}

-- ---- sets of vectors

empty_set : IsSameSet no_vectors []
unfolding no_marks
empty_set = record { length = length-replicate 256 false; same = λ v h. get_or-replicate 256 v false false h }

set_by : (o : Option (List Bool)) (l : Option (List ℕ)) → o ≡ Some no_vectors → l ≡ Some [] → SameSet o l
set_by o l e f = rw (e, f) empty_set

empty_sets : (p : Source) (subjects : List SubjectPart) (s : ℕ) (n : Subject) (q : SubjectPart) → slice_get subjects s ≡ Some q → subject_named p n.name ≡ Some n → SameSet (slice_get (map (λ q. no_vectors) subjects) s) (named (map (λ n. (n.name, [])) p.subjects) n.name)
empty_sets p subjects s n q at found =
    set_by (slice_get (map (λ q. no_vectors) subjects) s) (named (map (λ n. (n.name, [])) p.subjects) n.name)
    (slice_get-map (λ q. no_vectors) subjects s ∙ ap (option_map (λ q. no_vectors)) at)
    (named_map {X = List ℕ} (λ m. []) p.subjects n.name ∙ ap (option_map (λ m. [])) found)

-- ---- active members

-- a name by number, in a list of names and in one of subjects
pub name_by : (subjects : List Subject) (s : ℕ) → get_or (map (λ n. n.name) subjects) s [] ≡ unwrap_or (option_map (λ n. n.name) (slice_get subjects s)) []
name_by subjects s =
    sym (unwrap_or-slice_get (map (λ (n : Subject). n.name) subjects) s [])
    ∙ ap (λ o. unwrap_or o []) (slice_get-map (λ (n : Subject). n.name) subjects s)

names_of_firsts : (subjects : List Subject) (o : Option GroupPart) → option_map (λ g. get_or (map (λ n. n.name) subjects) g.first []) o ≡ option_map (λ s. unwrap_or (option_map (λ n. n.name) (slice_get subjects s)) []) (option_map (λ g. g.first) o)
names_of_firsts subjects None = refl
names_of_firsts subjects (Some g) = ap Some (name_by subjects g.first)

-- a test of this form tells the number
told : (a b k g : ℕ) → a ≡ b → (not (a == b) || (k == g)) ≡ true → k ≡ g
told a b k g e h = eqb-true k g (let t = eq-eqb a b e in let h = rw t at h in h)

module _ (p : Source) (files : Held) (i : Image) (keeps : KeepsConditions i) (sound : IsSound p files i) where
  same_firsts : (k : ℕ) → slice_get (map (λ g. first_member g.subjects) p.scheduling.groups) k ≡ option_map (subject_name_at (ground_of p i)) (slice_get (map (λ g. g.first) i.plan.groups) k)
  unfolding ground_of
  same_firsts k =
      let name : GroupPart → List ℕ = λ g. get_or (map (λ (n : Subject). n.name) p.subjects) g.first [] in
      sym (ap (λ xs. slice_get xs k) sound.plan_and_events.plan.firsts)
      ∙ slice_get-map name i.plan.groups k
      ∙ names_of_firsts p.subjects (slice_get i.plan.groups k)
      ∙ ap (option_map (subject_name_at (ground_of p i))) (sym (slice_get-map (λ (g : GroupPart). g.first) i.plan.groups k))

  -- the first member of a group is a subject of this group
  first_is_member : IsFixed (ground_of p i) → (k s : ℕ) → slice_get (map (λ g. g.first) i.plan.groups) k ≡ Some s → IsMember (ground_of p i) k s
  unfolding ground_of
  first_is_member fixed k s at =
      let f = from_some (λ (g : GroupPart). g.first) (slice_get i.plan.groups k) s (sym (slice_get-map (λ (g : GroupPart). g.first) i.plan.groups k) ∙ at) in
      let low = (all_at (IsGroup i.header) i.plan.groups k f.0 keeps.groups f.1).first in
      let many = keeps.counts.subjects in
      let is_s = f.2 in
      let q = there i.subjects s (omega (arith, low, many, is_s)) in
      let is = fixed.parts s q.0 q.1 in
      let same = one_value (slice_get i.subjects s) is.part q.0 is.joined.part q.1 in
      let kept = all_at (IsImageSubject i) (enumerate_from 0 i.subjects) s (s, q.0) keeps.subjects (numbered_at i.subjects s q.0 q.1) in
      let passes = passes_at (λ (e : ℕ × GroupPart). not (e.1.first == s) || (e.0 == q.0.group)) (enumerate_from 0 i.plan.groups) k (k, f.0) kept.first (numbered_at i.plan.groups k f.0 f.1) in
      record { is = is; in_group = ap (λ q. q.group) same ∙ sym (told f.0.first s k q.0.group is_s passes) }

  -- **events and active members**
  pub router_stands : IsFixed (ground_of p i) → RouterStands (ground_of p i) (router_started i.subjects i.plan.groups) (start_of p files).now (start_of p files).later (start_of p files).active
  unfolding ground_of start_of
  router_stands fixed = record {
    now = λ s n q c j. empty_sets p i.subjects s n q j.part j.found;
    later = λ s n q c j. empty_sets p i.subjects s n q j.part j.found;
    groups = refl;
    same_active = same_firsts;
    members = first_is_member fixed;
  }

-- ---- CPUs

pub zeros_long : (n : ℕ) → length (zeros n) ≡ n
unfolding zeros
zeros_long n = length-replicate n 0

zeros_small : (n : ℕ) → All IsWord (zeros n)
unfolding zeros
zeros_small n = All-replicate IsWord n 0 (omega arith)

fresh_fits : FitsCpu fresh
fresh_fits = record { entered = tt; file = record { length = zeros_long most; words = zeros_small most } }

nobody : (g : Ground) (cpu : ℕ) (who : Option ℕ) (u : Cpu) → None ≡ who → fresh ≡ u → SameEntered g cpu who u.entered
nobody g cpu who u e f = subst (λ w. SameEntered g cpu w u.entered) e (subst (λ u. SameEntered g cpu None u.entered) f tt)

-- **nobody is on any CPU**
pub cpus_stand : (g : Ground) (cpus : ℕ) → cpus ≡ g.policy.processor.logical_cpus → CpusStand g (replicate cpus None) (replicate cpus fresh)
cpus_stand g cpus many = record {
  on_there = λ cpu. replicated_there cpus cpu None ∙ ap (λ n. nat_lt cpu n) many;
  cpus_there = λ cpu. replicated_there cpus cpu fresh ∙ ap (λ n. nat_lt cpu n) many;
  entered = λ cpu who u at on. nobody g cpu who u (replicated cpus cpu None who at) (replicated cpus cpu fresh u on);
  fits = λ cpu u at. subst FitsCpu (replicated cpus cpu fresh u at) fresh_fits;
}

-- the image has as many as the policy
pub same_cpus : (p : Source) (files : Held) (i : Image) → IsSound p files i → i.header.cpus ≡ (ground_of p i).policy.processor.logical_cpus
unfolding ground_of
same_cpus p files i sound = sound.plan_and_events.cpus
