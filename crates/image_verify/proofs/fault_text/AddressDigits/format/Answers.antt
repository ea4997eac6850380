use Rattle.image_verify.proofs.FaultText.{hex_is_text, is_ok}
use Rattle.image_verify.proofs.fault_text.AddressDigits.format.Goals as goal

pub unwrap-requires : goal.unwrap-requires
unwrap-requires c = is_ok c.from_utf8.result _ _ (hex_is_text c.args.addr c.digits_of-self.result c.digits_of-self.ensures) c.from_utf8.ensures.cases
