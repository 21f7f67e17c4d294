-- What the answers of the calls tell.
pub mod AnswerLaws
pub mod FormatLaws
