use Rattle.line_feeds.proofs.Counting.{count_fits, feed_one}
use Rattle.line_feeds.proofs.count.Goals as goal

pub overflow_add-n : goal.overflow_add-n
overflow_add-n c = search (count_fits, feed_one)
