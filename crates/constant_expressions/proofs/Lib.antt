pub mod ElementTurns
