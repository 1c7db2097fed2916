-- Why an entry is not permitted, in words (this project's own format; the sections are those of docs/PROTOCOL.md and docs/RECORD.md).
use Rattle.std.specs.Prelude.{ℕ, List, ◌++◌, codes}
use Rattle.tl_types.specs.Text.{kind_text}
use Rattle.tl_types.specs.declared.kind.Kind.{Kind}
use Rattle.tl_types.specs.declared.kind.Kind.TheVariants as kind
use Rattle.tl_types.specs.declared.permission.DirtyPrune.TheVariants as dirty
use Rattle.tl_types.specs.declared.permission.GrantCap.TheVariants as cap
use Rattle.tl_types.specs.declared.permission.ProbeReport.TheVariants as report
use Rattle.tl_script_words.specs.Hex.{hex_text}
use Rattle.tlcheck_rules.specs.declared.difference.Difference.{Difference}
use Rattle.tlcheck_rules.specs.declared.difference.Difference.TheVariants.{NothingIsSent, OtherMessage, OtherParam, DataIsMissing, DataIsExtra, OtherBytes}
use Rattle.tlcheck_rules.specs.declared.judge.Breach.{Breach}
use Rattle.tlcheck_rules.specs.declared.judge.Breach.TheVariants.{NotPermitted, OutOfOrder, NotAsShown}
use Rattle.tlcheck_rules.specs.declared.rule.Rule.{Rule}
use Rattle.tlcheck_rules.specs.declared.rule.Rule.TheVariants.{BlockIsThere, ClientIsThere, AccessFits, CopyIsReadable, LoadHasItsBytes, CopyIsWritable, NoAcquireUnanswered, NoReleaseBesideAcquire, StartsFromItsCopy, ProbeWaits, NoReleaseUnanswered, GrantIsFirst, ReleaseAckIsFirst, AcquireWaits, ServesNoAcquire, RecordIsAbove, ClientHasNoProbe, NoGrantIsPending, OneGrantIsPending, MessageIsOnC, ServesThisClient, OthersLeaveRoom, HomeHasTheBlock, NoProbeIsPending, NothingIsPending, GrantAckWaits, ServesAnAcquire, HomeLacksTheBlock, NothingIsOutward, RequestIsOutward, DataIsOutward, PutAckIsOutward, CopyIsClean, CopyIsDirty, NobodyIsRecorded}
use Rattle.tlcheck_record.specs.declared.reason.Source.{Source}
use Rattle.tlcheck_record.specs.declared.reason.Source.TheVariants.{TileLink, Own, OwnOfDrops, OwnOfReaders}
use Rattle.tlcheck_record.specs.declared.reason.Place.{Place}
use Rattle.tlcheck_record.specs.declared.reason.Place.TheVariants.{Permissions, Rules, Events, Channels, Verdict}

-- what a rule says
abbrev pub rule_sentence : Rule → List ℕ
rule_sentence BlockIsThere = codes "the block is one of the memory"
rule_sentence ClientIsThere = codes "the client is one of the clients"
rule_sentence AccessFits = codes "an access is of 1 to 8 bytes in one block"
rule_sentence CopyIsReadable = codes "a load needs a copy at Branch or Tip"
rule_sentence LoadHasItsBytes = codes "a load gets the bytes of its copy"
rule_sentence CopyIsWritable = codes "a store needs a copy at Tip"
rule_sentence NoAcquireUnanswered = codes "no Acquire is sent between an Acquire and its Grant"
rule_sentence NoReleaseBesideAcquire = codes "no Release is sent between an Acquire and its Grant"
rule_sentence StartsFromItsCopy = codes "what is asked for or given up starts from the permission of the copy"
rule_sentence ProbeWaits = codes "an answer to a Probe needs a Probe on B"
rule_sentence NoReleaseUnanswered = codes "no ProbeAck, Acquire or Release is sent between a Release and its ReleaseAck"
rule_sentence GrantIsFirst = codes "a Grant is taken where one is first on D"
rule_sentence ReleaseAckIsFirst = codes "a ReleaseAck is taken where one is first on D"
rule_sentence AcquireWaits = codes "an Acquire is accepted where one is on A"
rule_sentence ServesNoAcquire = codes "home serves no other Acquire of the block"
rule_sentence RecordIsAbove = codes "a Probe asks for less than home records"
rule_sentence ClientHasNoProbe = codes "no earlier Probe of the block is unanswered at the client"
rule_sentence NoGrantIsPending = codes "no Grant of the block is pending"
rule_sentence OneGrantIsPending = codes "one Grant of the block is pending at a time"
rule_sentence MessageIsOnC = codes "home takes a message of C where one waits"
rule_sentence ServesThisClient = codes "a Grant answers the Acquire that home serves"
rule_sentence OthersLeaveRoom = codes "beside a Grant toT every other record is None, and beside a Grant toB none is Tip"
rule_sentence HomeHasTheBlock = codes "home has a copy of the block"
rule_sentence NoProbeIsPending = codes "no Probe of the block is unanswered"
rule_sentence NothingIsPending = codes "home gives up only a block of which no Probe and no Grant is pending"
rule_sentence GrantAckWaits = codes "a GrantAck is taken where one is on E"
rule_sentence ServesAnAcquire = codes "home serves an Acquire of the block"
rule_sentence HomeLacksTheBlock = codes "home has no copy of the block"
rule_sentence NothingIsOutward = codes "nothing passes between home and the memory for the block"
rule_sentence RequestIsOutward = codes "the memory answers a Get or a PutFullData that is on its way"
rule_sentence DataIsOutward = codes "home takes data where the answer to a Get is on its way"
rule_sentence PutAckIsOutward = codes "home takes an acknowledgement where that of a PutFullData is on its way"
rule_sentence CopyIsClean = codes "a copy that is dropped is clean"
rule_sentence CopyIsDirty = codes "a copy that is written back is dirty"
rule_sentence NobodyIsRecorded = codes "home gives up only a block of which nobody has a copy"

-- who asks for it: what is not TileLink's is this project's choice
abbrev pub rule_source : Rule → Source
rule_source BlockIsThere = Own
rule_source ClientIsThere = Own
rule_source AccessFits = Own
rule_source CopyIsReadable = TileLink
rule_source LoadHasItsBytes = TileLink
rule_source CopyIsWritable = TileLink
rule_source NoAcquireUnanswered = TileLink
rule_source NoReleaseBesideAcquire = Own
rule_source StartsFromItsCopy = OwnOfDrops
rule_source ProbeWaits = TileLink
rule_source NoReleaseUnanswered = TileLink
rule_source GrantIsFirst = TileLink
rule_source ReleaseAckIsFirst = TileLink
rule_source AcquireWaits = TileLink
rule_source ServesNoAcquire = Own
rule_source RecordIsAbove = Own
rule_source ClientHasNoProbe = TileLink
rule_source NoGrantIsPending = TileLink
rule_source OneGrantIsPending = Own
rule_source MessageIsOnC = TileLink
rule_source ServesThisClient = TileLink
rule_source OthersLeaveRoom = TileLink
rule_source HomeHasTheBlock = Own
rule_source NoProbeIsPending = TileLink
rule_source NothingIsPending = Own
rule_source GrantAckWaits = TileLink
rule_source ServesAnAcquire = Own
rule_source HomeLacksTheBlock = Own
rule_source NothingIsOutward = Own
rule_source RequestIsOutward = TileLink
rule_source DataIsOutward = TileLink
rule_source PutAckIsOutward = TileLink
rule_source CopyIsClean = TileLink
rule_source CopyIsDirty = Own
rule_source NobodyIsRecorded = Own

-- where docs/PROTOCOL.md has it
abbrev pub rule_place : Rule → Place
rule_place BlockIsThere = Events
rule_place ClientIsThere = Events
rule_place AccessFits = Events
rule_place CopyIsReadable = Permissions
rule_place LoadHasItsBytes = Events
rule_place CopyIsWritable = Permissions
rule_place NoAcquireUnanswered = Rules
rule_place NoReleaseBesideAcquire = Rules
rule_place StartsFromItsCopy = Events
rule_place ProbeWaits = Events
rule_place NoReleaseUnanswered = Rules
rule_place GrantIsFirst = Events
rule_place ReleaseAckIsFirst = Events
rule_place AcquireWaits = Events
rule_place ServesNoAcquire = Rules
rule_place RecordIsAbove = Events
rule_place ClientHasNoProbe = Rules
rule_place NoGrantIsPending = Rules
rule_place OneGrantIsPending = Rules
rule_place MessageIsOnC = Events
rule_place ServesThisClient = Events
rule_place OthersLeaveRoom = Events
rule_place HomeHasTheBlock = Events
rule_place NoProbeIsPending = Rules
rule_place NothingIsPending = Rules
rule_place GrantAckWaits = Events
rule_place ServesAnAcquire = Events
rule_place HomeLacksTheBlock = Events
rule_place NothingIsOutward = Events
rule_place RequestIsOutward = Events
rule_place DataIsOutward = Events
rule_place PutAckIsOutward = Events
rule_place CopyIsClean = Rules
rule_place CopyIsDirty = Rules
rule_place NobodyIsRecorded = Rules

-- the bytes that an event sends, and those that are shown
abbrev pub bytes_text : List ℕ → List ℕ → List ℕ
bytes_text sent shown = codes "it sends the bytes " ++ hex_text sent ++ codes ", and " ++ hex_text shown ++ codes " are shown"

-- how what is shown differs from what an event sends
abbrev pub difference_text : Difference → List ℕ
difference_text NothingIsSent = codes "it sends no message"
difference_text (OtherMessage sent) = codes "it sends another message, " ++ kind_text sent
difference_text (OtherParam sent) = codes "it sends another parameter, " ++ kind_text sent
difference_text (DataIsMissing sent) = codes "it sends " ++ kind_text sent ++ codes ", whose data is missing"
difference_text (DataIsExtra sent) = codes "it sends " ++ kind_text sent ++ codes ", which has no data"
difference_text (OtherBytes sent shown) = bytes_text sent shown

-- what an entry breaks, as a sentence
abbrev pub sentence_of : Breach → List ℕ
sentence_of (NotPermitted rule) = rule_sentence rule
sentence_of OutOfOrder = codes "a message is taken where it is the first of its channel"
sentence_of (NotAsShown difference) = codes "what is shown is what the event sends: " ++ difference_text difference

-- who asks that a message names the permission of the kind that is sent
abbrev pub param_source : Kind → Source
param_source (kind.ProbeAck report.NtoN) = TileLink
param_source (kind.ProbeAckData dirty.TtoN) = TileLink
param_source (kind.ReleaseData dirty.TtoN) = TileLink
param_source (kind.Grant cap.ToB) = TileLink
param_source (kind.GrantData cap.ToB) = TileLink
param_source (kind.ProbeAck _) = OwnOfDrops
param_source (kind.ProbeAckData _) = OwnOfDrops
param_source (kind.Release _) = OwnOfDrops
param_source (kind.ReleaseData _) = OwnOfDrops
param_source (kind.Grant _) = OwnOfReaders
param_source (kind.GrantData _) = OwnOfReaders
param_source _ = Own

-- who asks that what is shown is what is sent
abbrev pub difference_source : Difference → Source
difference_source NothingIsSent = Own
difference_source (OtherMessage sent) = Own
difference_source (OtherParam sent) = param_source sent
difference_source (DataIsMissing sent) = TileLink
difference_source (DataIsExtra sent) = Own
difference_source (OtherBytes sent shown) = TileLink

-- who asks for it
abbrev pub source_of : Breach → Source
source_of (NotPermitted rule) = rule_source rule
source_of OutOfOrder = Own
source_of (NotAsShown difference) = difference_source difference

-- where it stands
abbrev pub place_of : Breach → Place
place_of (NotPermitted rule) = rule_place rule
place_of OutOfOrder = Channels
place_of (NotAsShown difference) = Verdict

-- how its source prints
abbrev pub source_text : Source → List ℕ
source_text TileLink = codes "TileLink 1.8"
source_text Own = codes "this project's profile"
source_text OwnOfDrops =
    codes "this project's profile; TileLink 1.8 where dirty bytes are lost, or more is given up than there is or kept than asked"
source_text OwnOfReaders = codes "this project's profile; TileLink 1.8 where Tip was asked for"

-- how its place prints
abbrev pub place_text : Place → List ℕ
place_text Permissions = codes "docs/PROTOCOL.md, Permissions"
place_text Rules = codes "docs/PROTOCOL.md, Rules"
place_text Events = codes "docs/PROTOCOL.md, Events, state and runs"
place_text Channels = codes "docs/PROTOCOL.md, Channels of all blocks, and serials"
place_text Verdict = codes "docs/RECORD.md, Verdict"

-- the sentence, its source and its place
abbrev pub reason_text : Breach → List ℕ
reason_text breach = sentence_of breach ++ codes " (" ++ source_text (source_of breach) ++ codes "), " ++ place_text (place_of breach)

-- what an entry breaks, in few words: without what differs, its source and its place
abbrev pub breaks_text : Breach → List ℕ
breaks_text (NotPermitted rule) = codes "breaks: " ++ rule_sentence rule
breaks_text OutOfOrder = codes "breaks: a message is taken where it is the first of its channel"
breaks_text (NotAsShown difference) = codes "breaks: what is shown is what the event sends"
