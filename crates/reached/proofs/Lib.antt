-- The laws of the record, of chains and of the counts, in proving order.
pub mod WordBits
pub mod Totalling
pub mod MarkLaws
pub mod ChainSteps
pub mod NearLaws
pub mod ChainLaws
pub mod ListLaws
pub mod CountLaws
