pub mod EachLemmas
pub mod GeometryLemmas
pub mod ScriptLemmas
pub mod TextLemmas
