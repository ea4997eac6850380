-- What a write to the first entry of a name leaves.
use Rattle.std.proofs.Common.{◌≡◌, ℕ, ◌<◌, true, cond, List, ◌∷◌, ◌++◌, length, get_or, set, take, drop, Vec, String, string_bytes, sym, ap, ◌∙◌, suc}
use Rattle.std.proofs.lemmas.List.{set_split, map-append}
use Rattle.std.proofs.Math.Seq.{drop-cons}
use Rattle.std.specs.declared.alloc.Global.{Global}
use Rattle.std.specs.Str.{bytes_eq}
use Rattle.muen_outside.specs.Store.{put_entry}
use Rattle.muen_outside.specs.Entries.{entry_list}

abbrev Entry : Type 0
Entry = String Global × Vec ℕ Global

-- the first entry is of this name
pub put_first : (e : Entry) (es : List Entry) (name : List ℕ) (b : Vec ℕ Global) → bytes_eq name (string_bytes e.0) ≡ true → put_entry name b.items (entry_list (e ∷ es)) ≡ entry_list ((e.0, b) ∷ es)
put_first e es name b h = ap (λ t. cond t ((string_bytes e.0, b.items) ∷ entry_list es) ((string_bytes e.0, e.1.items) ∷ put_entry name b.items (entry_list es))) h

pub put_here : (es : List Entry) (i : ℕ) (d : Entry) (name : List ℕ) (b : Vec ℕ Global) → i < length es → d ≡ get_or es i d → bytes_eq name (string_bytes d.0) ≡ true → put_entry name b.items (entry_list es) ≡ entry_list (take i es) ++ put_entry name b.items (entry_list (drop i es)) → entry_list (set es i (d.0, b)) ≡ put_entry name b.items (entry_list es)
put_here es i d name b h r t e =
    let here : drop i es ≡ d ∷ drop (suc i) es = drop-cons es i d h ∙ ap (λ x. x ∷ drop (suc i) es) (sym r) in
    ap entry_list (set_split es i (d.0, b) h)
    ∙ map-append (λ e. (string_bytes e.0, e.1.items)) (take i es) ((d.0, b) ∷ drop (suc i) es)
    ∙ ap (λ x. entry_list (take i es) ++ x) (sym (put_first d (drop (suc i) es) name b t))
    ∙ ap (λ x. entry_list (take i es) ++ put_entry name b.items (entry_list x)) (sym here)
    ∙ sym e
