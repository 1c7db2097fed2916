-- What a reader of a record answered, beside what its format says of the text; and the sentence of each cause for which a line cannot be
-- read (this project's own formats).
use Rattle.std.specs.Prelude.{◌≡◌, ℕ, Bool, true, false, List, [], ◌++◌, Result, Ok, Err, codes, decimal}
use Rattle.tl_script_words.specs.declared.error.ParseError.{ParseError}
use Rattle.tl_script_words.specs.declared.error.ParseError.TheVariants.{Malformed, Memory as no_memory}
use Rattle.tlcheck_record.specs.MessageName.{message_name_text}
use Rattle.tlcheck_record.specs.declared.cause.Cause.{Cause}
use Rattle.tlcheck_record.specs.declared.cause.Cause.TheVariants as cause
use Rattle.tlcheck_record.specs.declared.cause.LineError.{LineError}
use Rattle.tlcheck_record.specs.declared.cause.LineError.TheVariants.{Wrong, Memory}

-- the line cannot be read for this cause, unless memory ran out
abbrev pub Refuses : {Y : Type 0} → LineError → Result Y Cause → Type 0
Refuses (Wrong c) value = value ≡ Err c
Refuses Memory value = Unit {0}

-- the value that was read, seen by view, is the line's
abbrev pub Gives : {X Y : Type 0} → (X → Y) → Result X LineError → Result Y Cause → Type 0
Gives view (Ok x) value = value ≡ Ok (view x)
Gives view (Err e) value = Refuses e value

infixl 10 ◌>>=◌
-- the next part of a line, where the one before it is in the format
abbrev pub ◌>>=◌ : {A B : Type 0} → Result A Cause → (A → Result B Cause) → Result B Cause
(Ok x) >>= f = f x
(Err e) >>= f = Err e

-- what a text that gives no bytes is refused with
abbrev pub of_text : ParseError → LineError
of_text Malformed = Wrong cause.Bytes
of_text no_memory = Memory

-- TileLink has such a message, and this project's profile does not
abbrev pub is_outside : Cause → Bool
is_outside (cause.Profile name param) = true
is_outside (cause.OffLink name) = true
is_outside cause.Size = true
is_outside cause.Denied = true
is_outside cause.Corrupt = true
is_outside cause.Mask = true
is_outside _ = false

-- a cause in words, up to the name of a message
abbrev pub head : Cause → List ℕ
head cause.LineEnd = codes "the line ends with CR LF, not with a line feed alone"
head cause.Mark = codes "the line begins with a byte order mark"
head cause.Text = codes "the line is not UTF-8"
head cause.Geometry = codes "the first line is not `clients N block_bytes N memory_blocks N`"
head cause.Order = codes "the order is not `each_block`"
head cause.Title = codes "the first line is not `jvwire 1`"
head cause.Shape = codes "the line is no shape"
head cause.Range = codes "a number of the shape is out of range"
head cause.NoImage = codes "the image has no bytes"
head cause.LongImage = codes "the image is longer than the memory"
head cause.Sources = codes "the line gives no client its sources"
head cause.Premise = codes "the line says nothing that is known of how the record was seen"
head cause.Unwatched = codes "the header says that nobody watched there"
head cause.Words = codes "the line has too few words"
head cause.MoreWords = codes "the line has too many words, or two spaces in a row"
head cause.Verb = codes "the first word is no event"
head cause.Param = codes "the parameter is none of the message"
head cause.Shown = codes "what is shown is no message of a client's link"
head cause.Number = codes "a number or an address is not written as one"
head cause.Link = codes "the link is none of `m`, `c0`, `c1` and so on"
head cause.Channel = codes "the third word is no channel, no `load` and no `store`"
head cause.Key = codes "a field has no key that is known"
head cause.Twice = codes "a field stands twice"
head cause.Bytes = codes "the bytes are not written as bytes, or are too many"
head cause.Client = codes "there is no such client"
head cause.Backwards = codes "the cycle is before that of an earlier line"
head cause.Code = codes "no message of TileLink has these codes"
head (cause.Profile name param) = codes "the message is outside the profile: "
head (cause.OffLink name) = codes "the message is outside the profile of this link: "
head cause.Extra = codes "a field is not one of the channel"
head cause.Missing = codes "a field is missing"
head cause.Size = codes "the message is not of one block, and so outside the profile"
head cause.Denied = codes "the message is denied, and so outside the profile"
head cause.Corrupt = codes "the message is corrupt, and so outside the profile"
head cause.Mask = codes "the message has a mask, and so is outside the profile"
head cause.Unaligned = codes "the address is not that of a block"
head cause.Outside = codes "the address is outside the memory"
head cause.Data = codes "the message has other than its number of bytes"
head cause.Source = codes "the source is not one of the client's"
head cause.SourceInUse = codes "an earlier request with this source is not answered"
head cause.NoRequest = codes "no request with this source is open"
head cause.SinkInUse = codes "an earlier Grant with this sink is not acknowledged"
head cause.NoGrant = codes "no Grant with this sink is open"
head cause.Access = codes "an access is of 1 to 8 bytes in one block"

-- the message that it names, where it names one
abbrev pub named : Cause → List ℕ
named (cause.Profile name param) = message_name_text name ++ codes " with param=" ++ decimal param
named (cause.OffLink name) = message_name_text name
named _ = []

-- a cause in words
abbrev pub sentence : Cause → List ℕ
sentence c = head c ++ named c
