-- Each name is taken in turn.
use Rattle.std.proofs.Common.{◌++◌, map, ◌∷◌, [], subst, take}
use Rattle.policy_lawful.specs.NameHashes.{AreDigested}
use Rattle.policy_lawful.proofs.NameHashes.{all_names, next_name, none_yet}
use Rattle.policy_lawful.proofs.name_hash.NameDigest.add_all.Goals as goal

pub loop-item-init : goal.loop-item-init
loop-item-init g c = none_yet c.args.self.now.hasher

pub loop-item-preserved : goal.loop-item-preserved
loop-item-preserved g c names h =
    let so_far = names ++ map g.T.Named.name (take c.loop-item.item-index c.args.items.now) in
    next_name g.T.Named.name c.args.items.now c.add.new.self.hasher names c.loop-item.item-index c.item-item.result c.loop-item-test.true c.item-item.is
    (subst (λ n. AreDigested c.add.new.self (so_far ++ n ∷ [])) c.name.ensures (c.add.ensures so_far (c.loop-item.invariant names h)))

pub returns : goal.returns
returns g c names h =
    all_names g.T.Named.name c.args.items.now c.loop-item.self.hasher names c.loop-item.item-index c.loop-item-test.false (c.loop-item.invariant names h)
