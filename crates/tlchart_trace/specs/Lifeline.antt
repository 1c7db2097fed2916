-- Who makes a step of a trace (this project's own).
use Rattle.std.specs.Prelude.{◌&&◌, nat_lt, Bool, true, false, if◌then◌else◌}
use Rattle.tl_map.specs.Numbers.{Numbers}
use Rattle.tl_script_words.specs.declared.step.BlockCall.TheVariants.{ServeMemory}
use Rattle.tl_script_words.specs.declared.step.Step.{Step}
use Rattle.tl_script_words.specs.declared.step.Step.TheVariants as step
use Rattle.tl_script_words.specs.declared.step.TicketCall.TheVariants.{AnswerProbe, TakeGrant, TakeReleaseAck}
use Rattle.tl_trace.specs.NetworkState.{bank_asked, client_named}
use Rattle.tlchart_model.specs.declared.lifeline.Lifeline.{Lifeline}
use Rattle.tlchart_model.specs.declared.lifeline.Lifeline.TheVariants.{Client, Home, Memory}

-- a step is a client's
abbrev pub is_by_client : Step → Bool
is_by_client (step.Load client address len) = true
is_by_client (step.Store client address bytes) = true
is_by_client (step.Acquire client block grow) = true
is_by_client (step.Release client block prune) = true
is_by_client (step.Ticket AnswerProbe ticket) = true
is_by_client (step.Ticket TakeGrant ticket) = true
is_by_client (step.Ticket TakeReleaseAck ticket) = true
is_by_client _ = false

-- a step is the memory's
abbrev pub is_by_memory : Step → Bool
is_by_memory (step.Block ServeMemory block) = true
is_by_memory _ = false

-- who makes a step: the memory, a client that is there, or else the home that is asked
abbrev pub lifeline_of : Numbers → Step → Lifeline
lifeline_of g s =
    if is_by_memory s then Memory
    else if is_by_client s && nat_lt (client_named s) g.clients then Client (client_named s)
    else Home (bank_asked g s)
