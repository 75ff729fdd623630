pub mod CaseLogs
