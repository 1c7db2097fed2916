use Rattle.std.proofs.Common.{sym, ◌∙◌}
use Rattle.std.proofs.lemmas.Bool.{false≢true}
use Rattle.tl_script.proofs.EachLemmas.{document_of-read, document_of-refused}
use Rattle.tl_script.proofs.document.document.Goals as goal

pub returns-in-Ok : goal.returns-in-Ok
returns-in-Ok c = rw (document_of-read c.args.bytes.now _ c.in-Ok.ensures.ok.0 c.in-Ok.ensures.ok.1)

pub returns-else-is_memory : goal.returns-else-is_memory
returns-else-is_memory c =
    rw (document_of-refused c.args.bytes.now (c.in-Err.ensures.refused (λ memory. false≢true (sym c.if-is_memory.false ∙ c.is_memory.ensures.1 memory))))
