pub mod Joined
pub mod ResultTexts
pub mod NumberedTexts
pub mod StripTexts
pub mod BinsTexts
pub mod KnapsackTexts
pub mod BoundedStripTexts
pub mod BoundedTexts
pub mod Lined
mod Blocks
pub mod SummaryTexts
pub mod ExplainedTexts
pub mod FrontPieces
pub mod FrontDocumentTexts
