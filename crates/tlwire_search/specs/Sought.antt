-- What is looked for among what was seen. No public clause cites these.
use Rattle.std.specs.Prelude.{◌≡◌, ℕ, Bool, true, false}
use Rattle.tl_types.specs.declared.kind.Kind.{Kind}
use Rattle.tl_types.specs.declared.kind.Kind.TheVariants as kind
use Rattle.tlwire_search.specs.Explained.{wire_of}
use Rattle.tlwire_search.specs.Where.{block_of}
use Rattle.tlwire_search.specs.declared.seen.Seen.{Seen}
use Rattle.tlwire_search.specs.declared.seen.Seen.TheVariants.{OnLink, OnMemory}
use Rattle.tlwire_search.specs.declared.seen.Wire.{Wire}
use Rattle.tlwire_search.specs.declared.sought.Sought.{Sought}
use Rattle.tlwire_search.specs.declared.sought.Sought.TheVariants.{Line, Grant, Get}

-- a message on D is a Grant, if it is no ReleaseAck
abbrev pub is_grant_kind : Kind → Bool
is_grant_kind kind.ReleaseAck = false
is_grant_kind _ = true

abbrev pub is_get_kind : Kind → Bool
is_get_kind kind.Get = true
is_get_kind _ = false

abbrev pub is_grant : Seen → Bool
is_grant (OnLink client block message) = is_grant_kind message.kind
is_grant _ = false

abbrev pub is_get : Seen → Bool
is_get (OnMemory block message) = is_get_kind message.kind
is_get _ = false

-- it is what is looked for: anything, a Grant or a Get
abbrev pub is_sought : Sought → Seen → Bool
is_sought Line s = true
is_sought Grant s = is_grant s
is_sought Get s = is_get s

-- it is sought of a block on a wire, where a block has so many bytes
abbrev pub IsLike : ℕ → Wire → ℕ → Sought → Seen → Type 0
IsLike bytes wire block sought s = (wire_of s ≡ wire) × (block_of bytes s ≡ block) × (is_sought sought s ≡ true)
