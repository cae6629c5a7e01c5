pub mod FormattedLemmas
