pub mod CallLaws
pub mod AskingCalls
