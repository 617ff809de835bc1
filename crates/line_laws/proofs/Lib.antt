pub mod LineLaws
pub mod OutputLaws
pub mod StepLaws
pub mod SomeRuns
pub mod RunLaws
