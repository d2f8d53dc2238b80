use Rattle.sq_resolve.proofs.TypedLaws.{index_typed, typed_index, time_typed, typed_time}
use Rattle.sq_resolve.proofs.laws.a_tree_has_at_most_one_index_or_timestamp.Goals as goal

pub returns : goal.returns
returns c =
    record {
      index_given = index_typed;
      index_found = typed_index;
      timestamp_given =
          time_typed;
      timestamp_found = typed_time;
    }
