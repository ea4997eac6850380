pub mod EmittedFrames
pub mod EmittedGroups
pub mod Fitting
pub mod PlanOfPolicy
pub mod ValidPlan
