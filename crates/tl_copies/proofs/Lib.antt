pub mod EntryLaws
pub mod PlaceLaws
pub mod CountLaws
pub mod TableLaws
pub mod FirstLaws
pub mod SlotLaws
pub mod HintLaws
