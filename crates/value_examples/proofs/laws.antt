pub mod ChangeTheorems
pub mod ExpressionTheorems
