-- The lines before the messages (this project's own format).
use Rattle.std.specs.Prelude.{ℕ, ◌%◌, ◌*◌, ◌+◌, ◌++◌, ◌==◌, ◌&&◌, ◌||◌, nat_le, nat_lt, Bool, false, List, [], ◌∷◌, codes, bytes_eq, None, Result, Ok, Err, if◌then◌else◌}
use Rattle.std.specs.List.{list_any}
use Rattle.tl_protocol.specs.declared.shape.Shape.{Shape}
use Rattle.tlcheck_record.specs.Header.{is_in_range}
use Rattle.tlcheck_record.specs.Cause.{◌>>=◌}
use Rattle.tlcheck_record.specs.Words.{number_in}
use Rattle.tlwire_record.specs.Address.{wide_address_in}
use Rattle.tlwire_record.specs.Drops.{drops_in, says_again}
use Rattle.tlwire_record.specs.Fields.{pair_of}
use Rattle.tlcheck_record.specs.declared.cause.Cause.{Cause}
use Rattle.tlcheck_record.specs.declared.cause.Cause.TheVariants as cause
use Rattle.tlwire_record.specs.declared.header.TheConstants.{REACH}
use Rattle.tlwire_record.specs.declared.header.Sources.{Sources}
use Rattle.tlwire_record.specs.declared.expects.Expects.{Expects}
use Rattle.tlwire_record.specs.declared.ignored.Ignored.{Ignored}
use Rattle.tlwire_search.specs.Naming.{no_premises}
use Rattle.tlwire_search.specs.declared.premises.Premises.{Premises}
use Rattle.tlwire_record.specs.Premise.{with_line}
use Rattle.tlwire_record.specs.declared.premise.Premise.{Premise}
use Rattle.tlwire_record.specs.declared.premise.Premise.TheVariants.{AtClient, AtClients, AtHome, Between, Skew, Whole, MemoryUnseen, CoresUnseen}

-- The memory, the clients and their sources, in the order of their lines, and how the record was seen; what is expected of its exchanges,
-- and whose lines are left out.
pub record SettingState : Type 0 where
  pub shape : Shape
  pub base : ℕ
  pub sources : List Sources
  pub premises : Premises
  pub expects : Expects
  pub ignored : List Ignored

-- nothing
abbrev pub nothing_expected : Expects
nothing_expected = record { quiet = false; patience = None }

-- a source lies in a range, which is the client's
abbrev pub has_source : ℕ → ℕ → Sources → Bool
has_source client source s = (s.client == client) && nat_le s.from source && nat_le source s.to

-- a range is the client's
abbrev pub is_of : ℕ → Sources → Bool
is_of client s = s.client == client

-- a source is one of a client's: it lies in one of its ranges; where no line gives the client sources, it is the client's number
abbrev pub owns : List Sources → ℕ → ℕ → Bool
owns sources client source =
    if list_any (is_of client) sources then list_any (has_source client source) sources else client == source

-- `jvwire 1`
abbrev pub is_title : List (List ℕ) → Bool
is_title (name ∷ version ∷ []) = bytes_eq name (codes "jvwire") && bytes_eq version (codes "1")
is_title _ = false

-- the number behind the key, in the two parts of `KEY=NUM`
abbrev pub number_part : List ℕ → List (List ℕ) → Result ℕ Cause
number_part key (name ∷ value ∷ []) = if bytes_eq name key then number_in value else Err cause.Key
number_part key _ = Err cause.Key

-- the number at a key: `KEY=NUM`
abbrev pub number_at : List ℕ → List ℕ → Result ℕ Cause
number_at key word = number_part key (pair_of word)

-- the address behind the key, in the two parts of `KEY=ADDR`
abbrev pub address_part : List ℕ → List (List ℕ) → Result ℕ Cause
address_part key (name ∷ value ∷ []) = if bytes_eq name key then wide_address_in value else Err cause.Key
address_part key _ = Err cause.Key

-- the address at a key: `KEY=ADDR`
abbrev pub address_at : List ℕ → List ℕ → Result ℕ Cause
address_at key word = address_part key (pair_of word)

-- the last byte of the memory has an address of 64 bits
abbrev pub ends_in_reach : Shape → ℕ → Bool
ends_in_reach shape base = nat_le (base + shape.block_bytes * shape.blocks) REACH

-- the numbers are in range, block 0 begins where a block may, and the last one ends where an address reaches
abbrev pub is_fit : Shape → ℕ → Bool
is_fit shape base = is_in_range shape && (base % shape.block_bytes == 0) && ends_in_reach shape base

-- the setting of these numbers, where they are fit
abbrev pub fitting : Shape → ℕ → Result SettingState Cause
fitting shape base = if is_fit shape base then Ok (record { shape = shape; base = base; sources = []; premises = no_premises; expects = nothing_expected; ignored = [] }) else Err cause.Range

-- `clients=NUM block=NUM blocks=NUM base=ADDR`, behind the word `shape`
unfoldable pub numbers_in : List (List ℕ) → Result SettingState Cause
numbers_in (clients ∷ block ∷ blocks ∷ base ∷ []) =
    number_at (codes "clients") clients
    >>= (λ c. number_at (codes "block") block
    >>= (λ bytes. number_at (codes "blocks") blocks
    >>= (λ n. address_at (codes "base") base
    >>= (λ a. fitting (record { clients = c; block_bytes = bytes; blocks = n }) a))))
numbers_in _ = Err cause.Shape

-- `shape` and its numbers
unfoldable pub setting_in : List (List ℕ) → Result SettingState Cause
setting_in [] = Err cause.Shape
setting_in (word ∷ rest) = if bytes_eq word (codes "shape") then numbers_in rest else Err cause.Shape

-- the client is there, and the range is one
abbrev pub has_sources : Shape → Sources → Bool
has_sources shape s = nat_lt s.client shape.clients && nat_le s.from s.to

-- `client=NUM from=NUM to=NUM`, behind the word `source`
unfoldable pub sources_in : Shape → List (List ℕ) → Result Sources Cause
sources_in shape (client ∷ from ∷ to ∷ []) =
    number_at (codes "client") client
    >>= (λ c. number_at (codes "from") from
    >>= (λ first. number_at (codes "to") to
    >>= (λ last.
    let s : Sources = record { client = c; from = first; to = last } in
    if has_sources shape s then Ok s else Err cause.Sources)))
sources_in shape _ = Err cause.Sources

-- one line of sources more
abbrev pub with_sources : SettingState → Sources → SettingState
with_sources setting s = record setting { sources = setting.sources ++ s ∷ [] }

-- the setting with what a line of sources gives
abbrev pub sources_taken : SettingState → List (List ℕ) → Result SettingState Cause
sources_taken setting words = sources_in setting.shape words >>= (λ s. Ok (with_sources setting s))

-- one line more of whose lines are left out
abbrev pub with_ignored : SettingState → Ignored → SettingState
with_ignored setting i = record setting { ignored = setting.ignored ++ i ∷ [] }

-- ## How the record was seen

-- the first word of a line that says how
abbrev pub is_premise_word : List ℕ → Bool
is_premise_word word =
    bytes_eq word (codes "seen") || bytes_eq word (codes "skew") || bytes_eq word (codes "whole") || bytes_eq word (codes "memory") || bytes_eq word (codes "cores")
    || bytes_eq word (codes "drops")

-- a client that is there
abbrev pub at_client : Shape → ℕ → Result Premise Cause
at_client shape c = if nat_lt c shape.clients then Ok (AtClient c) else Err cause.Client

-- `clients` or `home`
abbrev pub place_named : List ℕ → Result Premise Cause
place_named word =
    if bytes_eq word (codes "clients") then Ok AtClients
    else if bytes_eq word (codes "home") then Ok AtHome
    else Err cause.Premise

-- `clients`, `home` or `client NUM`, behind `seen at`
unfoldable pub place_in : Shape → List (List ℕ) → Result Premise Cause
place_in shape (word ∷ []) = place_named word
place_in shape (word ∷ number ∷ []) =
    if bytes_eq word (codes "client") then number_in number >>= (λ c. at_client shape c)
    else Err cause.Premise
place_in shape _ = Err cause.Premise

-- nothing behind it
abbrev pub alone : List (List ℕ) → Premise → Result Premise Cause
alone [] premise = Ok premise
alone _ premise = Err cause.Premise

-- `unseen` behind it
abbrev pub unseen_in : List (List ℕ) → Premise → Result Premise Cause
unseen_in (word ∷ []) premise = if bytes_eq word (codes "unseen") then Ok premise else Err cause.Premise
unseen_in _ premise = Err cause.Premise

-- `NUM`, behind `skew`
abbrev pub skew_in : List (List ℕ) → Result Premise Cause
skew_in (number ∷ []) = number_in number >>= (λ n. Ok (Skew n))
skew_in _ = Err cause.Premise

-- behind `seen`: `between`, or `at` and where
unfoldable pub seen_in : Shape → List (List ℕ) → Result Premise Cause
seen_in shape [] = Err cause.Premise
seen_in shape (word ∷ rest) =
    if bytes_eq word (codes "between") then alone rest Between
    else if bytes_eq word (codes "at") then place_in shape rest
    else Err cause.Premise

-- what a line says of how the record was seen, by its first word
unfoldable pub premise_in : Shape → List ℕ → List (List ℕ) → Result Premise Cause
premise_in shape word rest =
    if bytes_eq word (codes "seen") then seen_in shape rest
    else if bytes_eq word (codes "skew") then skew_in rest
    else if bytes_eq word (codes "whole") then alone rest Whole
    else if bytes_eq word (codes "memory") then unseen_in rest MemoryUnseen
    else if bytes_eq word (codes "drops") then drops_in shape rest
    else unseen_in rest CoresUnseen

-- one line more that says how
abbrev pub with_premise : SettingState → Premise → SettingState
with_premise setting p = record setting { premises = with_line setting.premises p }

-- the same, where no earlier line says it already
abbrev pub new_premise : SettingState → List ℕ → List (List ℕ) → Result Premise Cause
new_premise setting word rest =
    premise_in setting.shape word rest >>= (λ p. if says_again setting.premises p then Err cause.Premise else Ok p)

-- the setting with what a line says of how the record was seen
abbrev pub premise_taken : SettingState → List ℕ → List (List ℕ) → Result SettingState Cause
premise_taken setting word rest = new_premise setting word rest >>= (λ p. Ok (with_premise setting p))
