-- Each statement by its proof.
use Rattle.sha256.proofs.Constants.{constants}
use Rattle.sha256.proofs.Recurrence.{recurrence}
use Rattle.sha256.proofs.WordsTaken.{words_taken, queues_held}
use Rattle.protocol.proofs.Standing.{standing_means, flips, orders_read, standings_occur}
use Rattle.protocol.proofs.CheckMeans.{check_means}
use Rattle.protocol.proofs.NewMeans.{new_means}
use Rattle.protocol.proofs.CreateMeans.{create_means}
use Rattle.protocol.proofs.MadeMeans.{made_means}
use Rattle.protocol.proofs.CreateAfterCheck.{create_after_check}
use Rattle.protocol.proofs.MemoryMeans.{over_means, back_means, back_into_means, pend_means, sent_means}
use Rattle.protocol.proofs.CheckFileMeans.{check_file_means}
use Rattle.protocol.proofs.CreateFileMeans.{create_file_means}
use Rattle.protocol.proofs.Moved.{moved}
use Rattle.protocol.proofs.RoundTrips.{round_trips}
use Rattle.protocol.proofs.PendsMade.{pends_made}
use Rattle.protocol.proofs.PendingAsSent.{pending_as_sent}
use Rattle.protocol.proofs.CommitMeans.{commit_means}
use Rattle.protocol.proofs.NoJoin.{no_join}
use Rattle.protocol.proofs.MarkedSuffices.{marked_suffices}
use Rattle.protocol.proofs.ForkedRun.{forked_run_holds}
use Rattle.protocol.proofs.OneNumber.{one_number}
use Rattle.protocol.proofs.OneNumberSeen.{one_number_seen}
use Rattle.protocol.proofs.NoneCountsMore.{none_counts_more}
use Rattle.protocol.proofs.OnePerCount.{one_per_count}
use Rattle.protocol.proofs.Brings.{brings, sends_signed}
use Rattle.protocol.proofs.CutRun.{cut_run_holds}
use Rattle.protocol.proofs.HonestTurns.{honest_turns}
use Rattle.protocol.proofs.TurnsRun.{turns_run, turns_linked}
use Rattle.protocol.proofs.TwoUsers.{two_users_hold}
use Rattle.protocol.proofs.SteadyTurns.{steady_turns}
use Rattle.protocol.proofs.LastTurn.{last_turn}
use Rattle.protocol.proofs.CommitsCounted.{commits_counted}
use Rattle.protocol.proofs.ListingsAscend.{listings_ascend}
use Rattle.itable.proofs.LookupMeans.{lookup_means}
use Rattle.itable.proofs.NoneOnlyAtRoot.{none_only_at_root}
use Rattle.itable.proofs.LeafGives.{leaf_gives}
use Rattle.itable.proofs.WrittenLeafGives.{written_leaf_gives}
use Rattle.itable.proofs.Bounds.{bounds_kept, bound_refused, nearest_least, bound_positive}
use Rattle.itable.proofs.NeighbourRefused.{neighbour_refused}
use Rattle.itable.proofs.DiffersByThree.{differs_by_three}
use Rattle.itable.proofs.ManyMeans.{many_means}
use Rattle.itable.proofs.CountRefused.{count_refused}
use Rattle.itable.proofs.OneQuestion.{one_question}
use Rattle.itable.proofs.ManyAsTable.{many_as_table}
use Rattle.itable.proofs.BlockCheckMeans.{block_check_means}
use Rattle.itable.proofs.LargeCheckMeans.{large_check_means}
use Rattle.itable.proofs.ShortAlike.{short_alike}
use Rattle.itable.proofs.SeventeenAccepted.{seventeen_accepted}
use Rattle.itable.proofs.EntryMeans.{entry_means}
use Rattle.itable.proofs.WrittenAnswers.{written_answers}
use Rattle.itable.proofs.OtherwiseCollides.{otherwise_collides}
use Rattle.itable.proofs.BufferAnswersAsTable.{buffer_answers}
use Rattle.itable.proofs.AtMostBlocks.{at_most_blocks}
use Rattle.cache.proofs.ChooseMeans.{choose_means}
use Rattle.cache.proofs.Handed.{chosen_is_path, empty_is_refused, block_chosen, empty_not_there}
use Rattle.sundr.proofs.ChosenRead.{chosen_read}
use Rattle.sundr.proofs.AnswersRead.{answers_read}
use Rattle.sundr.proofs.ServerInBytes.{server_in_bytes}
use Rattle.store.proofs.MakeMeans.{make_means}
use Rattle.store.proofs.StoreMeans.{store_means}
use Rattle.store.proofs.RetrieveMeans.{retrieve_means}
use Rattle.store.proofs.RetrieveIntoMeans.{retrieve_into_means}
use Rattle.store.proofs.UnreferenceMeans.{unreference_means}
use Rattle.store.proofs.RetrievedHash.{retrieved_hash}
use Rattle.store.proofs.StoredIsRetrieved.{stored_is_retrieved}
use Rattle.store.proofs.ReferencesCounted.{references_counted}
use Rattle.store.proofs.MadeStaysSound.{made_stays_sound}
use Rattle.store.proofs.RoundTrip.{round_trip}
use Rattle.input.proofs.UsersRefused.{users_refused}
use Rattle.input.proofs.CheckTold.{check_told}
use Rattle.report.proofs.UsersPrinted.{users_printed}
use Rattle.report.proofs.ExamplePrinted.{example_printed}
use Rattle.claims.specs.Claims.{Claims}
use Rattle.claims.proofs.ExamplesHold.{examples_hold}
use Rattle.claims.proofs.LargeExamples.{large_examples_hold}

pub claims : Claims
claims =
    record {
      no_join = no_join;
      marked_suffices = marked_suffices;
      forked_run_holds = forked_run_holds;
      one_number = one_number;
      none_counts_more = none_counts_more;
      one_number_seen = one_number_seen;
      one_per_count = one_per_count;
      brings = brings;
      sends_signed = sends_signed;
      cut_run_holds = cut_run_holds;
      honest_turns = honest_turns;
      turns_run = turns_run;
      turns_linked = turns_linked;
      two_users_hold = two_users_hold;
      steady_turns = steady_turns;
      last_turn = last_turn;
      standing_means = standing_means;
      flips = flips;
      orders_read = orders_read;
      standings_occur = standings_occur;
      check_means = check_means;
      new_means = new_means;
      create_means = create_means;
      made_means = made_means;
      create_after_check = create_after_check;
      check_file_means = check_file_means;
      create_file_means = create_file_means;
      over_means = over_means;
      back_means = back_means;
      back_into_means = back_into_means;
      sent_means = sent_means;
      pend_means = pend_means;
      pending_as_sent = pending_as_sent;
      moved = moved;
      round_trips = round_trips;
      pends_made = pends_made;
      commit_means = commit_means;
      commits_counted = commits_counted;
      listings_ascend = listings_ascend;
      constants = constants;
      recurrence = recurrence;
      words_taken = words_taken;
      queues_held = queues_held;
      lookup_means = lookup_means;
      none_only_at_root = none_only_at_root;
      leaf_gives = leaf_gives;
      written_leaf_gives = written_leaf_gives;
      bounds_kept = bounds_kept;
      bound_refused = bound_refused;
      neighbour_refused = neighbour_refused;
      differs_by_three = differs_by_three;
      nearest_least = nearest_least;
      bound_positive = bound_positive;
      entry_means = entry_means;
      written_answers = written_answers;
      otherwise_collides = otherwise_collides;
      buffer_answers = buffer_answers;
      at_most_blocks = at_most_blocks;
      many_means = many_means;
      count_refused = count_refused;
      one_question = one_question;
      many_as_table = many_as_table;
      block_check_means = block_check_means;
      large_check_means = large_check_means;
      short_alike = short_alike;
      seventeen_accepted = seventeen_accepted;
      choose_means = choose_means;
      chosen_is_path = chosen_is_path;
      empty_is_refused = empty_is_refused;
      block_chosen = block_chosen;
      empty_not_there = empty_not_there;
      make_means = make_means;
      store_means = store_means;
      retrieve_means = retrieve_means;
      retrieve_into_means = retrieve_into_means;
      unreference_means = unreference_means;
      retrieved_hash = retrieved_hash;
      stored_is_retrieved = stored_is_retrieved;
      references_counted = references_counted;
      made_stays_sound = made_stays_sound;
      round_trip = round_trip;
      chosen_read = chosen_read;
      answers_read = answers_read;
      server_in_bytes = server_in_bytes;
      users_refused = users_refused;
      check_told = check_told;
      users_printed = users_printed;
      example_printed = example_printed;
      examples_hold = examples_hold;
      large_examples_hold = large_examples_hold;
    }
