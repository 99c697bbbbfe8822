-- What is claimed of this library, beside the contracts of its calls: each field is a statement, which stands with its definitions in the
-- file that is named. A contract says, for every input, that a call's answer and each lent byte are what a definition gives; these
-- statements say what those definitions mean, and what holds over every run of them.
use Rattle.sha256.specs.Constants.{Constants}
use Rattle.sha256.specs.Schedule.{Recurrence}
use Rattle.sha256.specs.WordsTaken.{WordsTaken, QueuesHeld}
use Rattle.protocol.specs.Standing.{StandingMeans, Flipped, OrdersRead, StandingsOccur}
use Rattle.protocol.specs.Meaning.{CheckMeans, NewMeans}
use Rattle.protocol.specs.CreateMeaning.{CreateMeans, MadeMeans}
use Rattle.protocol.specs.CreateAfterCheck.{CreateAfterCheck}
use Rattle.protocol.specs.MemoryMeaning.{OverMeans, BackMeans, BackIntoMeans, PendMeans, SentMeans}
use Rattle.protocol.specs.CheckFileMeaning.{CheckFileMeans}
use Rattle.protocol.specs.CreateFileMeaning.{CreateFileMeans}
use Rattle.protocol.specs.Moved.{Moved}
use Rattle.protocol.specs.RoundTrips.{RoundTrips}
use Rattle.protocol.specs.PendsMade.{PendsMade}
use Rattle.protocol.specs.PendingAsSent.{PendingAsSent}
use Rattle.protocol.specs.CommitMeaning.{CommitMeans}
use Rattle.protocol.specs.NoJoin.{NoJoin, MarkedSuffices}
use Rattle.protocol.specs.ForkedRun.{ForkedRun}
use Rattle.protocol.specs.OneNumber.{OneNumber}
use Rattle.protocol.specs.OneNumberSeen.{OneNumberSeen}
use Rattle.protocol.specs.NoneCountsMore.{NoneCountsMore}
use Rattle.protocol.specs.OnePerCount.{OnePerCount}
use Rattle.protocol.specs.Brings.{Brings, SendsSigned}
use Rattle.protocol.specs.CutRun.{CutRun}
use Rattle.protocol.specs.Turns.{HonestTurns}
use Rattle.protocol.specs.TurnsRun.{TurnsRun, TurnsLinked}
use Rattle.protocol.specs.TwoUsers.{TwoUsers}
use Rattle.protocol.specs.Steady.{SteadyTurns}
use Rattle.protocol.specs.LastTurn.{LastTurn}
use Rattle.protocol.specs.Commits.{CommitsCounted}
use Rattle.protocol.specs.Listings.{ListingsAscend}
use Rattle.itable.specs.LookupMeaning.{LookupMeans, NoneOnlyAtRoot}
use Rattle.itable.specs.LeafGives.{LeafGives, WrittenLeafGives}
use Rattle.itable.specs.Bounds.{BoundPositive, NearestLeast, BoundsKept, BoundRefused}
use Rattle.itable.specs.Neighbour.{NeighbourRefused}
use Rattle.itable.specs.Before.{DiffersByThree}
use Rattle.itable.specs.ManyMeaning.{ManyMeans, CountRefused, OneQuestion}
use Rattle.itable.specs.ManyAsTable.{ManyAsTable}
use Rattle.itable.specs.InodeMeaning.{BlockCheckMeans}
use Rattle.itable.specs.LargeMeaning.{LargeCheckMeans}
use Rattle.itable.specs.LargeFiles.{ShortAlike, SeventeenAccepted}
use Rattle.itable.specs.Answers.{EntryMeans, AtMostBlocks, WrittenAnswers, OtherwiseCollides, BufferAnswersAsTable}
use Rattle.cache.specs.ChooseMeaning.{ChooseMeans}
use Rattle.cache.specs.Handed.{ChosenIsPath, EmptyIsRefused, BlockChosen, EmptyNotThere}
use Rattle.store.specs.Meaning.{MakeMeans, StoreMeans, RetrieveMeans, RetrieveIntoMeans, UnreferenceMeans}
use Rattle.store.specs.Retrieved.{RetrievedHash, StoredIsRetrieved}
use Rattle.store.specs.Runs.{ReferencesCounted, MadeStaysSound}
use Rattle.store.specs.RoundTrip.{RoundTrip}
use Rattle.input.specs.UsersRefused.{UsersRefused}
use Rattle.input.specs.CheckTold.{CheckTold}
use Rattle.report.specs.UsersPrinted.{UsersPrinted}
use Rattle.report.specs.ExamplePrinted.{ExamplePrinted}
use Rattle.sundr.specs.Read.{AnswersRead}
use Rattle.sundr.specs.Chosen.{ChosenRead}
use Rattle.sundr.specs.Server.{ServerInBytes}
use Rattle.claims.specs.Examples.{ExamplesHold, LargeExamples}

pub record Claims : Type 1 where
  -- No fork is joined: in every run of checks, making steps and writes, whole or absent, in which no honest user's record is forged, and each honest
  -- structure is made of counts that an earlier check gave at its client, where two honest users signed structures that each lack the other's
  -- work, no check accepts a list that shows both, or later ones. Signed is what a making step made and whose pending write came whole.
  pub no_join : NoJoin
  -- The order's own premise, of every marked record of an honest user in any list, is enough for it.
  pub marked_suffices : MarkedSuffices
  -- There is a run that meets the premise of this and forks, two checks being open at once, and the list that would join it is refused.
  pub forked_run_holds : ForkedRun
  -- One number is enough: where honest users signed x and y, in a run of this premise, x is at or before y exactly if y counts at least as many
  -- operations of x's owner as x does.
  pub one_number : OneNumber
  -- For every input, no record of a list that a check accepts counts more operations of the check's user than that user remembers.
  pub none_counts_more : NoneCountsMore
  -- In the forked run one number tells yes, and no on both sides of the fork; and an accepted list counts as much as is remembered.
  pub one_number_seen : OneNumberSeen
  -- Of the structures whose pending write came whole, a client makes one for each own count, whatever is cut off and whatever counts it is given.
  pub one_per_count : OnePerCount
  -- What a client's file holds is the last structure that its user signed, none before the first.
  pub brings : Brings
  -- What a check wants sent again was signed.
  pub sends_signed : SendsSigned
  -- There is a run with cuts that meets the premise of all this: a structure is made and lost, another made and not sent, sent again, and taken.
  pub cut_run_holds : CutRun
  -- Honest users who take turns through an honest server are refused exactly at the last count, and told to send again never, whether their files
  -- are marked as sent or not.
  pub honest_turns : HonestTurns
  -- What these turns leave in the clients' files is what the run of their checks, making steps and sent writes leaves there.
  pub turns_run : TurnsRun
  -- And that run meets the premise that counts are of an earlier check at the same client.
  pub turns_linked : TurnsLinked
  -- There are such turns, and all are accepted.
  pub two_users_hold : TwoUsers
  -- After such turns each client's file is formed and holds what the server holds of it, and all that is held is ordered.
  pub steady_turns : SteadyTurns
  -- There is such a world in which a turn is refused, and turns that lead to such a refusal.
  pub last_turn : LastTurn
  -- How counts stand: equal, before, after or apart, each exactly where its condition holds, and exactly one of the four.
  pub standing_means : StandingMeans
  -- The other way round, before is after, and after before.
  pub flips : Flipped
  -- Both orders of the papers are read from it.
  pub orders_read : OrdersRead
  -- Each of the four occurs.
  pub standings_occur : StandingsOccur
  -- A client's check on what it remembers accepts exactly where each condition holds, and refuses exactly for the first that does not.
  pub check_means : CheckMeans
  -- The new counts, each of the sixteen.
  pub new_means : NewMeans
  -- A making step accepts exactly where each condition holds, and refuses exactly for the first that does not.
  pub create_means : CreateMeans
  -- What it makes: its owner, its handle, and each of its counts.
  pub made_means : MadeMeans
  -- What a check gave, the making step takes, and of sixteen zeros it makes nothing; whatever it takes, it makes a well formed structure
  -- of its user.
  pub create_after_check : CreateAfterCheck
  -- The check on a memory file: when it gives counts, when it says "send again", and when and why it refuses.
  pub check_file_means : CheckFileMeans
  -- The making step on a file.
  pub create_file_means : CreateFileMeans
  -- The four other calls on a file: moving over and back, with what is then in the lent buffer, marking as sent, and the pending file of a structure.
  pub over_means : OverMeans
  pub back_means : BackMeans
  pub back_into_means : BackIntoMeans
  pub sent_means : SentMeans
  pub pend_means : PendMeans
  -- A pending file whose structure the list shows is judged as if it were sent, and the making step makes no difference.
  pub pending_as_sent : PendingAsSent
  -- Both calls answer the file of what was remembered as they answered that.
  pub moved : Moved
  -- Neither round trip loses anything, and each takes just what it should.
  pub round_trips : RoundTrips
  -- What a check gave, the making step on the same file takes, and what that makes can pend.
  pub pends_made : PendsMade
  -- A server's commit accepts exactly where each condition holds, and replaces one record.
  pub commit_means : CommitMeans
  -- The sum of all held own counts is the number of commits accepted since the server's list was made.
  pub commits_counted : CommitsCounted
  -- What a server lists is a list: whole records, well formed, owners ascending, and just what is held.
  pub listings_ascend : ListingsAscend
  -- The standard's constants are the bits of the roots of primes that it names.
  pub constants : Constants
  -- The message schedule is the standard's recurrence.
  pub recurrence : Recurrence
  -- The word that each round takes, from the sixteen that the code holds, is the standard's.
  pub words_taken : WordsTaken
  -- And there are such sixteen words before each round, for every block.
  pub queues_held : QueuesHeld
  -- A lookup accepts exactly where a chain of blocks, each of the hash that led to it and well formed, says so; else why it is refused.
  pub lookup_means : LookupMeans
  -- Only in a root is there no number at most the one that is looked up.
  pub none_only_at_root : NoneOnlyAtRoot
  -- Whatever number a leaf on an accepted path holds, the same path gives its handle.
  pub leaf_gives : LeafGives
  -- And for each file of a table there is such a path, of written blocks.
  pub written_leaf_gives : WrittenLeafGives
  -- In an accepted lookup each number of a block is below every bound on the way there: the number in the next used slot of each block above.
  pub bounds_kept : BoundsKept
  -- A block with a number that is not below them all is refused with 3, at its own index.
  pub bound_refused : BoundRefused
  -- There is such a block: a leaf that holds a file which the lookup denies.
  pub neighbour_refused : NeighbourRefused
  -- An answer is what the lookup gave before there were bounds, or it is now 3 at a child; so what is accepted was accepted.
  pub differs_by_three : DiffersByThree
  -- One bound is carried, the nearest: what is below it is below every bound on the way.
  pub nearest_least : NearestLeast
  -- No bound is 0, which stands where there is none.
  pub bound_positive : BoundPositive
  -- What a table says of an i-number: the handle of the file of that number, or that no file has it.
  pub entry_means : EntryMeans
  -- Written blocks answer each lookup as the table does.
  pub written_answers : WrittenAnswers
  -- A path that is accepted under the table's root and says otherwise has a block that collides with a written one.
  pub otherwise_collides : OtherwiseCollides
  -- Both, of the bytes that the writer leaves in the lent buffer.
  pub buffer_answers : BufferAnswersAsTable
  -- A table takes at most 273 blocks.
  pub at_most_blocks : AtMostBlocks
  -- Many lookups in one call accept exactly where all lengths fit and each lookup accepts, with its answer at its place; else the first that is
  -- refused refuses the call.
  pub many_means : ManyMeans
  -- A count that no path has is its question's own refusal, in its turn.
  pub count_refused : CountRefused
  -- One question is answered as the lookup answers it.
  pub one_question : OneQuestion
  -- And with written paths, up to 64 numbers in any order are answered in one call as the table does.
  pub many_as_table : ManyAsTable
  -- The check of a file's block accepts exactly where each condition holds, and refuses exactly for the first that does not.
  pub block_check_means : BlockCheckMeans
  -- So does that of a large file's block, with the conditions on its indirect block among them.
  pub large_check_means : LargeCheckMeans
  -- Every inode of kind 6 is answered as it is when it is written as a large one, which has no need of an indirect block.
  pub short_alike : ShortAlike
  -- Any bytes of a block are accepted as the last of seventeen blocks, exactly if the hash of the indirect block that names them is not zero.
  pub seventeen_accepted : SeventeenAccepted
  -- Of a reply and a cached part, both of a length that is taken, the one is chosen that is there and has the wanted hash, the reply first; a choice
  -- is refused exactly for a length, or where neither is the one.
  pub choose_means : ChooseMeans
  -- What is handed back with the length of a table's block is to the lookup a path of one block, which it refuses neither with 8 nor with 2.
  pub chosen_is_path : ChosenIsPath
  -- Nothing is handed back exactly where the choice is refused.
  pub empty_is_refused : EmptyIsRefused
  -- Every part of 1 to 65,536 bytes is handed back under its hash, from either side.
  pub block_chosen : BlockChosen
  -- An empty part is never chosen, whatever is wanted, the hash of no bytes too.
  pub empty_not_there : EmptyNotThere
  -- A block store is made of zeros; storing, retrieving and unreferencing accept exactly where each condition holds, refuse exactly for the first that
  -- does not, and leave every byte that is not named.
  pub make_means : MakeMeans
  pub store_means : StoreMeans
  pub retrieve_means : RetrieveMeans
  pub retrieve_into_means : RetrieveIntoMeans
  pub unreference_means : UnreferenceMeans
  -- What is retrieved has the wanted hash.
  pub retrieved_hash : RetrievedHash
  -- What is stored is retrieved.
  pub stored_is_retrieved : StoredIsRetrieved
  -- Over every list of calls from a made store, all counts and the references taken are together the accepted stores.
  pub references_counted : ReferencesCounted
  -- A made store stays sound, and gives room back.
  pub made_stays_sound : MadeStaysSound
  -- Every block is stored, retrieved, shared, and given back.
  pub round_trip : RoundTrip
  -- The pointer and the length that a caller in C makes of the choice's number are those of the slice that is handed back.
  pub chosen_read : ChosenRead
  -- What a caller in C reads in an answer's number is the answer, for every input of each call.
  pub answers_read : AnswersRead
  -- A server's list is one thing as a struct and as bytes.
  pub server_in_bytes : ServerInBytes
  -- An input of the desk program with a number of users of 0 or above 16 is judged `refuse 1 0 0`.
  pub users_refused : UsersRefused
  -- And it is printed so.
  pub users_printed : UsersPrinted
  -- What is judged of an input of the stated form is the check's answer, and nothing else.
  pub check_told : CheckTold
  -- The paper's example of its output.
  pub example_printed : ExamplePrinted
  -- The twelve marked examples.
  pub examples_hold : ExamplesHold
  -- And those of large files, from no byte to the last that 144 blocks hold.
  pub large_examples_hold : LargeExamples
