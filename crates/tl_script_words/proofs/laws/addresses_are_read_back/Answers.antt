use Rattle.tl_script_words.proofs.HexLaws.{address_read}
use Rattle.tl_script_words.proofs.laws.addresses_are_read_back.Goals as goal

pub returns : goal.returns
returns c = address_read
