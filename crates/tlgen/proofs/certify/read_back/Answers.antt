use Rattle.std.proofs.Common.{◌∙◌, ap, sym}
use Rattle.tl_script.specs.Script.{read_of}
use Rattle.tlgen.proofs.certify.read_back.Goals as goal

-- what was read are the text's bytes
pub returns : goal.returns
returns c = (c.in_ok-_script._script, ap read_of (sym c.as_bytes.ensures.value) ∙ c.in_ok-_script.ensures)
