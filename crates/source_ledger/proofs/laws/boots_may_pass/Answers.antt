use Rattle.source_ledger.proofs.NumberSteps.{boot-passed}
use Rattle.source_ledger.proofs.laws.boots_may_pass.Goals as goal

pub returns-clause-numbers : goal.returns-clause-numbers
returns-clause-numbers c = λ s samples. boot-passed s.marks.width s samples

pub returns-clause-flows : goal.returns-clause-flows
returns-clause-flows c = λ s samples.
    let both = boot-passed s.numbers.marks.width s.numbers samples in (
      λ st. record {
        numbers_stand = both.0 st.numbers_stand;
        pool_is = st.pool_is;
        drops_are = st.drops_are;
        rate_is = st.rate_is;
      },
      λ st. record {
        numbers_stand = both.1 st.numbers_stand;
        pool_is = st.pool_is;
        drops_are = st.drops_are;
        rate_is = st.rate_is;
      },
    )
