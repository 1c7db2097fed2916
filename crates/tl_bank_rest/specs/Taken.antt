-- A call that takes what is under way, and that a bank does not refuse (this project's own).
use Rattle.std.specs.Prelude.{◌≡◌, None}
use Rattle.tl_bank_spec.specs.Calls.{answer_probe_cases, take_grant_cases, take_release_ack_cases}
use Rattle.tl_bank_spec.specs.HomeCalls.{accept_cases, advance_cases, serve_memory_cases, take_c_cases, take_grant_ack_cases, take_memory_cases}
use Rattle.tl_bank_spec.specs.Refusal.{first_of}
use Rattle.tl_bank_spec.specs.View.{View}
use Rattle.tl_bank_rest.specs.Shares.{share_of}
use Rattle.tl_bank_rest.specs.declared.receiving.Receiving.{Receiving}
use Rattle.tl_bank_rest.specs.declared.receiving.Receiving.TheVariants.{TakeGrantAck, TakeGrant, TakeReleaseAck, TakeC, AnswerProbe, ServeMemory, TakeMemory, Advance, Accept}

-- no case refuses the call, whose client comes with its own share where the call takes one
abbrev pub IsTaken : View → Receiving → Type 0
IsTaken v (TakeGrantAck ticket) = first_of (take_grant_ack_cases v ticket) ≡ None
IsTaken v (TakeGrant ticket) = first_of (take_grant_cases v ticket (share_of v ticket.client)) ≡ None
IsTaken v (TakeReleaseAck ticket) = first_of (take_release_ack_cases v ticket) ≡ None
IsTaken v (TakeC ticket) = first_of (take_c_cases v ticket) ≡ None
IsTaken v (AnswerProbe ticket) = first_of (answer_probe_cases v ticket (share_of v ticket.client)) ≡ None
IsTaken v (ServeMemory block) = first_of (serve_memory_cases v block) ≡ None
IsTaken v (TakeMemory block) = first_of (take_memory_cases v block) ≡ None
IsTaken v (Advance block) = first_of (advance_cases v block) ≡ None
IsTaken v (Accept ticket) = first_of (accept_cases v ticket) ≡ None
