use Rattle.std.proofs.Common.{◌≡◌, ◌++◌, [], get_or, length, sym, ap, ◌∙◌, arith}
use Rattle.std.specs.List.{filter_map}
use Rattle.std.proofs.Math.Seq.{take-append_seam}
use Rattle.std.proofs.lemmas.List.{append_assoc}
use Rattle.policy_views.specs.Parts.{behind_views, front_views}
use Rattle.policy_views.proofs.SightsAtIndex.{behind_read, front_read}
use Rattle.policy_rules.proofs.Parted.{uses_parted}
use Rattle.policy_rules.specs.Writers.{user_of}
use Rattle.policy_rules.proofs.WritersByIndex.{users_more}
use Rattle.policy_rules.proofs.writers.users_of.Goals as goal

pub loop-index-preserved : goal.loop-index-preserved
loop-index-preserved c =
    let r = c.args.policy.now in
    let s = c.subject-item.result in
    let in_front = c.front-front.ensures ∙ front_read r _ c.loop-index.index s c.subjects-subject-items.ensures.value c.loop-index-test.true c.subject-item.is in
    let after = c.behind-behind.ensures ∙ behind_read r _ c.loop-index.index s c.subjects-subject-items.ensures.value c.loop-index-test.true c.subject-item.is in
    let same : c.loop-index.users.len ≡ length c.note_subject.new.users = omega arith in
    rw (same, take-append_seam)
    (users_more r c.deref_mut.result.now c.note_subject.new.users r.subjects c.loop-index.index s (rw c.deref_mut.ensures.value c.loop-index.invariant) c.note_subject.auto.users
    (λ k l.
    c.in_ok-note_subject.ensures k l
    ∙ (λ i. get_or c.deref_mut.result.now k [] ++ filter_map (user_of k s.name) (in_front i) ++ filter_map (user_of k s.name) (after i))
    ∙ append_assoc (get_or c.deref_mut.result.now k []) (filter_map (user_of k s.name) (front_views r s)) (filter_map (user_of k s.name) (behind_views r s))
    ∙ ap (λ us. get_or c.deref_mut.result.now k [] ++ us) (sym (uses_parted r k s)))
    (rw (sym c.subjects-subject-items.ensures.value) c.loop-index-test.true) (rw (sym c.subjects-subject-items.ensures.value) c.subject-item.is))
