mod Rows
mod Spans
mod LeadLemmas
mod FillLemmas
mod DotLemmas
mod BlendLemmas
pub mod Columns
pub mod TileLemmas
pub mod MarkLemmas
pub mod ScreenLemmas
pub mod RefreshLemmas
mod ComposedLemmas
