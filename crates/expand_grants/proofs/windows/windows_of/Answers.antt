use Rattle.std.proofs.Common.{All, sym, subst, ◌∙◌}
use Rattle.expand_grants.proofs.WindowsInOrder.{named_in_order}
use Rattle.expand_grants.specs.Numbered.{IsNamed}
use Rattle.expand_grants.proofs.windows.windows_of.Goals as goal

pub all_numbered-requires : goal.all_numbered-requires
all_numbered-requires c =
    subst (All (λ v. IsNamed c.args.policy.now v v.shows)) (sym (c.deref.ensures.value ∙ c.in_ok-views.ensures))
    (named_in_order c.args.policy.now c.args.views.now c.requires.named)
