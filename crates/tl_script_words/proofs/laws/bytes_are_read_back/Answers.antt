use Rattle.tl_script_words.proofs.HexLaws.{bytes_read}
use Rattle.tl_script_words.proofs.laws.bytes_are_read_back.Goals as goal

pub returns : goal.returns
returns c = bytes_read
