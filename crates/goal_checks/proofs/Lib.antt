pub mod FaultLemmas
pub mod FlawLemmas
pub mod ParamLemmas
pub mod SiteLemmas
