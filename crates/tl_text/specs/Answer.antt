-- What a step answers, as text (this project's own format).
use Rattle.std.specs.Prelude.{ℕ, List, ◌++◌, codes, decimal}
use Rattle.tl_types.specs.Codes.{code_of}
use Rattle.tl_types.specs.Bodies.{body_kind, body_bytes}
use Rattle.tl_types.specs.Text.{kind_text}
use Rattle.tl_types.specs.Ticket.{ticket_text}
use Rattle.tl_types.specs.declared.kind.Kind.{Kind}
use Rattle.tl_script_words.specs.Hex.{hex_text, carried_text}
use Rattle.tl_bank_spec.specs.Refusal.{refusal_number}
use Rattle.tl_text.specs.Memory.{log_of_size, memory_kind, operands_text}
use Rattle.tl_text.specs.declared.answer.Answer.{Answer}
use Rattle.tl_text.specs.declared.answer.Answer.TheVariants.{Sent, Memory, Dropped, Loaded, Done, Refused}

-- a kind's opcode and parameter, with a dot between them, and then its name
abbrev pub coded_text : Kind → List ℕ
coded_text kind = decimal (code_of kind).0 ++ codes "." ++ decimal (code_of kind).1 ++ codes " " ++ kind_text kind

-- what a step's answer prints as
abbrev pub answer_text : Answer → List ℕ
answer_text (Sent ticket block body) = codes "sent " ++ ticket_text ticket ++ codes " " ++ coded_text (body_kind body) ++ carried_text (body_bytes body)
answer_text (Memory size message) = codes "memory " ++ coded_text (memory_kind message) ++ codes " " ++ decimal (log_of_size size) ++ operands_text message
answer_text Dropped = codes "drop"
answer_text (Loaded bytes) = codes "data " ++ hex_text bytes
answer_text Done = codes "ok"
answer_text (Refused refusal) = codes "refused " ++ decimal (refusal_number refusal)
