-- What the subject at an index sees by itself.
use Rattle.std.proofs.Common.{◌≡◌, ℕ, ◌+◌, ◌<◌, List, [], length, get_or, Option, Some, sym, ap, ◌∙◌, arith}
use Rattle.std.specs.Prelude.{slice_get}
use Rattle.std.specs.Option.{option_map_or}
use Rattle.std.specs.List.{enumerate_from}
use Rattle.muen_num.specs.Search.{first_in}
use Rattle.muen_num.proofs.SameAnswers.{first_numbered_same}
use Rattle.muen_num.proofs.Lists.{read_at}
use Rattle.policy_lawful.specs.Resolution.{Resolution}
use Rattle.policy_lawful.specs.declared.resolved.Subject.{Subject}
use Rattle.policy_lawful.specs.declared.view.View.{View}
use Rattle.policy_views.specs.Parts.{behind_at, behind_views, front_at, front_views}

front_there : (r : Resolution) (k : ℕ) (s : Subject) → slice_get r.subjects k ≡ Some s → front_at r k ≡ front_views r s
front_there r k s at = ap (λ o. option_map_or (front_views r) o []) at

behind_there : (r : Resolution) (k : ℕ) (s : Subject) → slice_get r.subjects k ≡ Some s → behind_at r k ≡ behind_views r s
behind_there r k s at = ap (λ o. option_map_or (behind_views r) o []) at

-- where the subject was read from the list
pub front_read : (r : Resolution) (ss : List Subject) (k : ℕ) (s : Subject) → ss ≡ r.subjects → k < length ss → s ≡ get_or ss k s → front_at r k ≡ front_views r s
front_read r ss k s same within is = front_there r k s (read_at r.subjects ss k s same within is)

pub behind_read : (r : Resolution) (ss : List Subject) (k : ℕ) (s : Subject) → ss ≡ r.subjects → k < length ss → s ≡ get_or ss k s → behind_at r k ≡ behind_views r s
behind_read r ss k s same within is = behind_there r k s (read_at r.subjects ss k s same within is)

-- a search of the subjects with these views, by their indexes
pub first_sighted : {O : Type 0} (at : List View → List View → Subject → Option O) (by : Subject → Option O) (r : Resolution) → ((s : Subject) → by s ≡ at (front_views r s) (behind_views r s) s)
    → first_in (λ x. at (front_at r x.0) (behind_at r x.0) x.1) (enumerate_from 0 r.subjects) ≡ first_in by r.subjects
first_sighted at by r same =
    sym (first_numbered_same by (λ x. at (front_at r x.0) (behind_at r x.0) x.1) 0 r.subjects
    (λ k s e.
    let index : k ≡ 0 + k = omega arith in
    same s
    ∙ ((λ i. at (sym (front_there r k s e) i) (sym (behind_there r k s e) i) s)
    ∙ ap (λ j. at (front_at r j) (behind_at r j) s) index)))
