use Rattle.std.proofs.Common.{◌≡◌, ◌∙◌, sym, arith, ◌<◌, length, string_bytes, true}
use Rattle.std.specs.Str.{bytes_eq}
use Rattle.std.proofs.lemmas.List.{get_or_default}
use Rattle.muen_outside.proofs.PutEntry.{put_here}
use Rattle.muen_outside.proofs.mem_files.put_file.Goals as goal

pub returns-then-eq-clause-ok : goal.returns-then-eq-clause-ok
returns-then-eq-clause-ok c =
    let in_range : c.loop-i.i < length c.loop-i.files.items = omega arith in
    let same_key : c.index.result.now ≡ c.index_mut.result.now = c.index.ensures ∙ get_or_default _ _ _ _ in_range ∙ sym c.index_mut.ensures.value in
    let is : bytes_eq (string_bytes c.args.name) (string_bytes c.index_mut.result.now.0) ≡ true = cc in
    put_here _ _ _ _ _ in_range c.index_mut.ensures.value is c.loop-i.invariant.rest ∙ cc
