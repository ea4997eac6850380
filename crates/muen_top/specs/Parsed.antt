-- The command that was parsed.
use Rattle.std.specs.Prelude.{Option, Some, None, option_map}
use Rattle.muen_top.specs.Commands.{Command, build, boot, run, map, flows, verify, load}
use Rattle.muen_top.specs.declared.command.Command.{Command as Parsed}
use Rattle.muen_top.specs.declared.command.Command.TheVariants.{Usage, Build, Boot, Run, Map, Flows, Verify, Load}

-- what it asks for
abbrev pub asked : Parsed → Option Command
asked Usage = None
asked (Build policy image tables) = Some (build policy.now image.now (option_map (λ name. name.now) tables))
asked (Boot policy record_name) = Some (boot policy.now record_name.now)
asked (Run image record_name tables) = Some (run image.now record_name.now (option_map (λ name. name.now) tables))
asked (Map policy) = Some (map policy.now)
asked (Flows policy) = Some (flows policy.now)
asked (Verify image policy) = Some (verify image.now policy.now)
asked (Load number) = Some (load number)
