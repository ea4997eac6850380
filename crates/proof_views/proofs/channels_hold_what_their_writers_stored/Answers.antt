use Rattle.policy_lawful.specs.Thing.{channel}
use Rattle.proof_views.proofs.ChannelWriters.{channel_private}
use Rattle.proof_views.proofs.PrivateMemory.{after_holds, reaches_others}
use Rattle.proof_views.proofs.channels_hold_what_their_writers_stored.Goals as goal

pub returns-clause-private : goal.returns-clause-private
returns-clause-private c = channel_private

pub returns-clause-holds : goal.returns-clause-holds
returns-clause-holds c = λ p files r w name it bytes n run is there writes starts.
    after_holds p files r w (channel name) (channel_private p w name it run.policy is there writes) run.policy is run.orders bytes starts n

pub returns-clause-reaches : goal.returns-clause-reaches
returns-clause-reaches c = λ p files r w name it bytes n s inbox run is there writes starts shown reaches.
    reaches_others p files r w (channel name) (channel_private p w name it run.policy is there writes) run.policy is run.orders bytes starts s n inbox shown reaches
