-- What a step of a trace did (this project's own).
use Rattle.std.specs.Prelude.{List, [], ◌∷◌, Option, Some, None}
use Rattle.tl_bank_spec.specs.Refusal.{refusal_number}
use Rattle.tl_map.specs.Numbers.{Numbers}
use Rattle.tl_script_words.specs.declared.step.BlockCall.TheVariants.{Evict, ServeMemory, TakeMemory}
use Rattle.tl_script_words.specs.declared.step.Step.{Step}
use Rattle.tl_script_words.specs.declared.step.Step.TheVariants as step
use Rattle.tl_text.specs.declared.answer.Answer.{Answer}
use Rattle.tl_text.specs.declared.answer.Answer.TheVariants as answer
use Rattle.tlchart_trace.specs.Lifeline.{lifeline_of}
use Rattle.tlchart_trace.specs.Message.{message_by}
use Rattle.tlchart_model.specs.declared.lifeline.Place.{Place}
use Rattle.tlchart_model.specs.declared.lifeline.Place.TheVariants.{Link, ToMemory, FromMemory}
use Rattle.tlchart_model.specs.declared.turn.Mark.{Mark}
use Rattle.tlchart_model.specs.declared.turn.Mark.TheVariants.{Loaded, Stored, Dropped, Evicting, Refused}
use Rattle.tlchart_model.specs.declared.turn.Turn.{Turn}

-- the place of the message that a step takes: that of its ticket, or that between home and the memory for its block
abbrev pub place_named : Step → Option Place
place_named (step.Ticket call ticket) = Some (Link ticket)
place_named (step.Block ServeMemory block) = Some (ToMemory block)
place_named (step.Block TakeMemory block) = Some (FromMemory block)
place_named _ = None

-- a refused step takes none
abbrev pub place_taken : Step → Answer → Option Place
place_taken s (answer.Refused refusal) = None
place_taken s _ = place_named s

-- the mark of a step whose answer says only that it was done
abbrev pub mark_of_done : Step → Option Mark
mark_of_done (step.Store client address bytes) = Some (Stored bytes)
mark_of_done (step.Block Evict block) = Some (Evicting block)
mark_of_done _ = None

-- the mark of a step
abbrev pub mark_of : Step → Answer → Option Mark
mark_of s answer.Dropped = Some Dropped
mark_of s (answer.Loaded bytes) = Some (Loaded bytes)
mark_of s answer.Done = mark_of_done s
mark_of s (answer.Refused refusal) = Some (Refused (refusal_number refusal))
mark_of s _ = None

-- what a step with an answer did
unfoldable pub turn_of : Numbers → Step → Answer → Turn
turn_of g s a = record { at = lifeline_of g s; sends = message_by g s a; takes = place_taken s a; mark = mark_of s a }

-- what each step did, as far as there are answers
abbrev pub turns_of : Numbers → List Step → List Answer → List Turn
turns_of g (s ∷ steps) (a ∷ answers) = turn_of g s a ∷ turns_of g steps answers
turns_of g [] answers = []
turns_of g (s ∷ steps) [] = []
