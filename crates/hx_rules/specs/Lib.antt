-- what callers need
pub mod Programs
pub mod Building
pub mod State
pub mod Formats
pub mod Rewrites
pub mod Rewriting
pub mod Locations
pub mod Verdicts
pub mod Deciding
pub mod Tables
pub mod Failures
pub mod Reached
pub mod Judged
-- views of the code, for the contracts of private functions
pub mod ProgramView
pub mod RedirectView
pub mod RewriteView
pub mod RequestView
pub mod EffectView
pub mod ActionView
pub mod ReplacingView
