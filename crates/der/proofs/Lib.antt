pub mod Auto
pub mod HeadLaws
pub mod ContentLaws
pub mod KindLaws
pub mod ElementLaws
pub mod OneForm
pub mod RuleLaws
pub mod IntegerLaws
