pub mod RulesTold
