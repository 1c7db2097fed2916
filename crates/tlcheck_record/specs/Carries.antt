-- What an event carries after its verb, as the line of a record has it. No public clause cites this module.
use Rattle.std.specs.Prelude.{ℕ, List, ◌++◌, codes, decimal}
use Rattle.tl_types.specs.Text.{grow_text, probe_cap_text, prune_text}
use Rattle.tl_protocol.specs.declared.event.Event.{Event}
use Rattle.tl_protocol.specs.declared.event.Event.TheVariants.{Load, Store, SendAcquire, SendRelease, AnswerProbe, TakeGrant, TakeReleaseAck, AcceptAcquire, SendProbe, TakeC, SendGrant, TakeGrantAck, SendGet, Serve, TakeData, Drop, SendPut, TakePutAck}
use Rattle.tlcheck_record.specs.Written.{access_text, pair_text}
use Rattle.tlcheck_record.specs.declared.written.Words.{Words}
use Rattle.tlcheck_record.specs.declared.written.Words.TheVariants.{OfAccess, OfClient, OfAcquire, OfRelease, OfProbe, OfBlock}

-- what an event carries, after its verb
abbrev pub event_words : Event → List ℕ
event_words (Load access) = access_text access
event_words (Store access) = access_text access
event_words (SendAcquire c block grow) = pair_text c block ++ codes " " ++ grow_text grow
event_words (SendRelease c block prune) = pair_text c block ++ codes " " ++ prune_text prune
event_words (AnswerProbe c block) = pair_text c block
event_words (TakeGrant c block) = pair_text c block
event_words (TakeReleaseAck c block) = pair_text c block
event_words (AcceptAcquire c block) = pair_text c block
event_words (SendProbe c block cap) = pair_text c block ++ codes " " ++ probe_cap_text cap
event_words (TakeC c block) = pair_text c block
event_words (SendGrant c block) = pair_text c block
event_words (TakeGrantAck c block) = pair_text c block
event_words (SendGet block) = decimal block
event_words (Serve block) = decimal block
event_words (TakeData block) = decimal block
event_words (Drop block) = decimal block
event_words (SendPut block) = decimal block
event_words (TakePutAck block) = decimal block

-- the same, as it is picked for the print
abbrev pub words_text : Words → List ℕ
words_text (OfAccess access) = access_text access.now
words_text (OfClient c block) = pair_text c block
words_text (OfAcquire c block grow) = pair_text c block ++ codes " " ++ grow_text grow
words_text (OfRelease c block prune) = pair_text c block ++ codes " " ++ prune_text prune
words_text (OfProbe c block cap) = pair_text c block ++ codes " " ++ probe_cap_text cap
words_text (OfBlock block) = decimal block
