-- Laws on the lines of a replay.
pub mod WordLaws
pub mod JoinLaws
pub mod DigitLaws
pub mod DecimalLaws
pub mod HexLaws
pub mod PrintLaws
pub mod RoundLaws
