use Rattle.proof_views.proofs.AloneViews.{each_once}
use Rattle.proof_views.proofs.PrivateMemory.{private_left, reaches_as_seen, reaches_first, seen_stores}
use Rattle.proof_views.proofs.private_memory_is_the_subjects_own.Goals as goal

pub returns-clause-kept : goal.returns-clause-kept
returns-clause-kept c = λ p files r s x n inbox v run is private reaches seen. reaches_as_seen p files r s x private run.policy is (each_once p r run.orders) n inbox v reaches seen

pub returns-clause-first : goal.returns-clause-first
returns-clause-first c = λ p files r s x inbox run is private shown reaches. reaches_first p files r s x private run.policy is (each_once p r run.orders) inbox shown reaches

pub returns-clause-stores : goal.returns-clause-stores
returns-clause-stores c = λ p files r s x bytes n v run is private shown starts seen. seen_stores p files r s x private run.policy is run.orders bytes starts n v shown seen

pub returns-clause-left : goal.returns-clause-left
returns-clause-left c = λ p files r s x n run is private shown ends. private_left p files r s x private run.policy is (each_once p r run.orders) n shown ends
