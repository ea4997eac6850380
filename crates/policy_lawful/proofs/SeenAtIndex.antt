-- What the subject at an index sees.
use Rattle.std.proofs.Common.{◌≡◌, ℕ, ◌+◌, ◌<◌, List, [], length, get_or, Option, Some, sym, ap, ◌∙◌, arith}
use Rattle.std.specs.Prelude.{slice_get}
use Rattle.std.specs.Option.{option_map_or}
use Rattle.std.specs.List.{enumerate_from}
use Rattle.muen_num.specs.Search.{first_in}
use Rattle.muen_num.proofs.SameAnswers.{first_numbered_same}
use Rattle.muen_num.proofs.Lists.{read_at}
use Rattle.policy_lawful.specs.Resolution.{Resolution}
use Rattle.policy_lawful.specs.Views.{channel_ends_at, channel_ends_of, views_at, views_of}
use Rattle.policy_lawful.specs.declared.resolved.Subject.{Subject}
use Rattle.policy_lawful.specs.declared.view.View.{View}

pub views_there : (r : Resolution) (k : ℕ) (s : Subject) → slice_get r.subjects k ≡ Some s → views_at r k ≡ views_of r s
views_there r k s at = ap (λ o. option_map_or (views_of r) o []) at

pub channel_ends_there : (r : Resolution) (k : ℕ) (s : Subject) → slice_get r.subjects k ≡ Some s → channel_ends_at r k ≡ channel_ends_of r s
channel_ends_there r k s at = ap (λ o. option_map_or (channel_ends_of r) o []) at

-- where the subject was read from the list
pub views_read : (r : Resolution) (ss : List Subject) (k : ℕ) (s : Subject) → ss ≡ r.subjects → k < length ss → s ≡ get_or ss k s → views_at r k ≡ views_of r s
views_read r ss k s same within is = views_there r k s (read_at r.subjects ss k s same within is)

pub channel_ends_read : (r : Resolution) (ss : List Subject) (k : ℕ) (s : Subject) → ss ≡ r.subjects → k < length ss → s ≡ get_or ss k s → channel_ends_at r k ≡ channel_ends_of r s
channel_ends_read r ss k s same within is = channel_ends_there r k s (read_at r.subjects ss k s same within is)

-- a search of the subjects with their views, by their indexes
pub first_seen : {O : Type 0} (at : List View → Subject → Option O) (r : Resolution) → first_in (λ x. at (views_at r x.0) x.1) (enumerate_from 0 r.subjects) ≡ first_in (λ s. at (views_of r s) s) r.subjects
first_seen at r =
    sym (first_numbered_same (λ s. at (views_of r s) s) (λ x. at (views_at r x.0) x.1) 0 r.subjects
    (λ k s e. let index : k ≡ 0 + k = omega arith in ap (λ vs. at vs s) (sym (views_there r k s e)) ∙ ap (λ j. at (views_at r j) s) index))
