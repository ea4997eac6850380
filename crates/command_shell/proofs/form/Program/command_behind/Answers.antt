use Rattle.std.proofs.Common.{map, option_map, ap, None, Some, ◌∙◌}
use Rattle.std.specs.Prelude.{string_bytes}
use Rattle.command_shell.proofs.FormFound.{by_found}
use Rattle.command_shell.specs.Forms.{taken_shown}
use Rattle.command_shell.proofs.form.Program.command_behind.Goals as goal

pub returns-in_err-form : goal.returns-in_err-form
returns-in_err-form g c =
    ap (option_map taken_shown) c.from_residual.ensures ∙ by_found c.args.self.now.forms.now c.args.word.now _ (map string_bytes c.args.arguments.now) None c.in_err-form.ensures

pub returns : goal.returns
returns g c = by_found c.args.self.now.forms.now c.args.word.now _ (map string_bytes c.args.arguments.now) (Some c.in_ok-form.form) c.in_ok-form.ensures
