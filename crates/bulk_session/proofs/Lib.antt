pub use Rattle.session_core.proofs.TurnLaws
pub use Rattle.session_core.proofs.ShortLaws
mod AnswerLaws
mod EditLaws
mod EventLaws
mod LiteralLaws
mod PrintedLaws
mod ProgramLaws
mod ProgramTexts
mod ShelfLaws
